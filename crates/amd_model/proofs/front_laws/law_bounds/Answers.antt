use Rattle.amd_model.proofs.States.Exact.{bounds_in_each_state}
use Rattle.amd_model.proofs.front_laws.law_bounds.Goals as goal

pub returns : goal.returns
returns c = bounds_in_each_state
