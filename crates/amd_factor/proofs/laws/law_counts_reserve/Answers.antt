use Rattle.amd_factor.proofs.Calls.CountParts.{counts_reserve}
use Rattle.amd_factor.proofs.laws.law_counts_reserve.Goals as goal

pub returns : goal.returns
returns c = counts_reserve
