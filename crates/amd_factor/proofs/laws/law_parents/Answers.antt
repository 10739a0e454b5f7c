use Rattle.amd_factor.proofs.Trees.TreeLaws.{parents_tell_tree}
use Rattle.amd_factor.proofs.laws.law_parents.Goals as goal

pub returns : goal.returns
returns c = parents_tell_tree
