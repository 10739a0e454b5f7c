use Rattle.amd_model.proofs.States.EndState.{dense_are_last}
use Rattle.amd_model.proofs.listing_laws.law_dense_are_last.Goals as goal

pub returns : goal.returns
returns c = dense_are_last
