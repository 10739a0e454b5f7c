use Rattle.std.proofs.Common.{◌≡◌, ◌+◌, ◌≤◌, ℤ, List, map}
use Rattle.amd_input.specs.Scans.{descents_below}
use Rattle.amd_input.proofs.valid.descents.Given as goal

abbrev pub invariant-places : goal.invariant-places
invariant-places g l = let ai : List ℤ = map g.I.Index.value l.a_i in record {
  count : descents_below ai l.from + l.found ≡ descents_below ai l.k;
  none : l.to ≤ l.from → l.found ≡ 0;
}
