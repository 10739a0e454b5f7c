use Rattle.amd_model.proofs.sum_laws.law_front_sums.Goals as goal
use Rattle.amd_model.proofs.Figures.Sums.{entries_closed, lu_closed, ldl_closed}

pub returns : goal.returns
returns c = record { entries = entries_closed; lu = lu_closed; ldl = ldl_closed }
