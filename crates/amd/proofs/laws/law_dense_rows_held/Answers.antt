use Rattle.amd.proofs.OneAnswer.{dense_rows_held}
use Rattle.amd.proofs.laws.law_dense_rows_held.Goals as goal

pub returns : goal.returns
returns c = dense_rows_held
