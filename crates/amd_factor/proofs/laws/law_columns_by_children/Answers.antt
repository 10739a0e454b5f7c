use Rattle.amd_factor.proofs.Trees.ByChildren.{columns_by_children}
use Rattle.amd_factor.proofs.laws.law_columns_by_children.Goals as goal

pub returns : goal.returns
returns c = columns_by_children
