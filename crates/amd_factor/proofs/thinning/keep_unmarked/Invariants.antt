use Rattle.std.proofs.Common.{◌≤◌}
use Rattle.amd_factor.specs.Thinning.{Keeps}
use Rattle.amd_factor.proofs.thinning.keep_unmarked.Given as goal

abbrev pub invariant-places : goal.invariant-places
invariant-places l = record {
  from : l.begin ≤ l.place;
  keeps : Keeps l.begin l.place l.first l.next l.stamp l.mark l.fn.lists l.lists;
}
