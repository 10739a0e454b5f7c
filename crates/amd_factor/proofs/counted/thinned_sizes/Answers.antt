use Rattle.amd_factor.proofs.Meetings.ThinRows.{has-thinned}
use Rattle.amd_factor.proofs.counted.thinned_sizes.Goals as goal

pub returns-clause-lists : goal.returns-clause-lists
returns-clause-lists g c = has-thinned g.o _ c.requires.1.0 c.thin_lists.ensures.thins _ _ c.thin_lists.ensures.earlier
