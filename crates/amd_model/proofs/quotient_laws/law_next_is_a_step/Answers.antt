use Rattle.amd_model.proofs.Quotient.Rounds.{next_is_a_step}
use Rattle.amd_model.proofs.quotient_laws.law_next_is_a_step.Goals as goal

pub returns : goal.returns
returns c = next_is_a_step
