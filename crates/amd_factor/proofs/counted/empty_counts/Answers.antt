use Rattle.std.proofs.Common.{[], rules}
use Rattle.amd_factor.proofs.counted.empty_counts.Goals as goal

pub returns-clause-needs : goal.returns-clause-needs
returns-clause-needs g c = c.need_of_sizes-need.ensures [] (search rules)
