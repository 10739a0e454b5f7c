use Rattle.std.proofs.Common.{◌≡◌, ◌≤◌, ◌*◌, ℕ, List, take, map, length}
use Rattle.amd_factor.specs.Counted.{SumUp}
use Rattle.amd_factor.proofs.counted.sums_of.Given as goal

abbrev pub invariant-columns : goal.invariant-columns
invariant-columns l = record {
  sums : (columns : List (List ℕ)) → l.sizes ≡ map length columns → SumUp (take l.size-index columns) l.sums;
  few : l.sums.squares ≤ l.sums.entries * l.sums.entries;
}
