use Rattle.amd_factor.proofs.Calls.CountParts.{counts_tell_factor}
use Rattle.amd_factor.proofs.laws.law_counts_tell_factor.Goals as goal

pub returns : goal.returns
returns c = counts_tell_factor
