use Rattle.amd_model.proofs.States.Paths.{fronts_in_each_state}
use Rattle.amd_model.proofs.front_laws.law_fronts_are_paths.Goals as goal

pub returns : goal.returns
returns c = fronts_in_each_state
