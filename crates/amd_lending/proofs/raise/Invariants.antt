use Rattle.std.proofs.Common.{ℕ, pos, ◌≡◌, ◌<◌, ◌≤◌, ◌++◌, map, take, drop, nat_abs}
use Rattle.std.specs.Prelude.{slice_index_or}
use Rattle.amd_lending.specs.Views.{raised}
use Rattle.amd_lending.proofs.raise.Given as goal

abbrev pub invariant-loop-i : goal.invariant-loop-i
invariant-loop-i l = record {
  items : l.numbers ≡ map raised (take l.i l.fn.numbers) ++ drop l.i l.fn.numbers;
  fit : (k : ℕ) → k < l.i → nat_abs (slice_index_or l.numbers k (pos 0)) ≤ 9223372036854775807;
}
