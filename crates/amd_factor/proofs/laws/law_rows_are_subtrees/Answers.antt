use Rattle.amd_factor.proofs.Trees.TreePaths.{rows_are_subtrees}
use Rattle.amd_factor.proofs.laws.law_rows_are_subtrees.Goals as goal

pub returns : goal.returns
returns c = rows_are_subtrees
