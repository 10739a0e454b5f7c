use Rattle.amd_factor.proofs.Trees.TreeLaws.{rows_tell_subtrees}
use Rattle.amd_factor.proofs.laws.law_rows.Goals as goal

pub returns : goal.returns
returns c = rows_tell_subtrees
