use Rattle.amd_model.proofs.Quotient.Rounds.{rounds_are_a_run}
use Rattle.amd_model.proofs.quotient_laws.law_rounds_are_a_run.Goals as goal

pub returns : goal.returns
returns c = rounds_are_a_run
