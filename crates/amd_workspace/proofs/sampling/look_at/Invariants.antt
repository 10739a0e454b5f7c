use Rattle.std.proofs.Common.{◌-◌}
use Rattle.amd_workspace.proofs.sampling.look_at.Given as goal

abbrev pub decreases-columns : goal.decreases-columns
decreases-columns g l = l.size - l.j
