use Rattle.amd.proofs.Orderings.{dense_rows_equal}
use Rattle.amd.proofs.laws.law_equal_dense_rows.Goals as goal

pub returns : goal.returns
returns c = dense_rows_equal
