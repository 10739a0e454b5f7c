use Rattle.amd_factor.proofs.Trees.Once.{one_factor}
use Rattle.amd_factor.proofs.laws.law_one_factor.Goals as goal

pub returns : goal.returns
returns c = one_factor
