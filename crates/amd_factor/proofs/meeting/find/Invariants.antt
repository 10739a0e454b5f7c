use Rattle.std.proofs.Common.{ℕ, ◌-◌, ◌≤◌, length}
use Rattle.std.specs.Prelude.{slice_index}
use Rattle.amd_factor.specs.Ranks.{Above}
use Rattle.amd_factor.specs.Meetings.{Links}
use Rattle.amd_factor.proofs.meeting.find.Given as goal

abbrev pub invariant-up : goal.invariant-up
invariant-up g l = record {
  links : Links g.at.0 g.at.1 l.link;
  most : l.x ≤ length g.at.0.up;
  over : Above g.at.0.up l.start l.x;
  lowest : (r : ℕ) → r ≤ length g.at.0.up → Above g.at.0.up l.start r → g.at.1 ≤ slice_index g.at.0.rank r → Above g.at.0.up l.x r;
}

abbrev pub decreases-up : goal.decreases-up
decreases-up g l = length g.at.0.up - l.x
