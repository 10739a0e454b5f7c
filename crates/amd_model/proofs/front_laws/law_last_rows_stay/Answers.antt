use Rattle.amd_model.proofs.States.EndState.{last_rows_stay}
use Rattle.amd_model.proofs.front_laws.law_last_rows_stay.Goals as goal

pub returns : goal.returns
returns c = last_rows_stay
