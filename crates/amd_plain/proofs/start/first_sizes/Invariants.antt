use Rattle.std.proofs.Common.{ℕ, ◌≡◌, ◌≤◌, ◌<◌, length}
use Rattle.std.specs.Prelude.{cond, not, nat_lt, ◌&&◌}
use Rattle.std.specs.Vec.{vec_capacity}
use Rattle.amd_plain.specs.Views.{mark_at, num}
use Rattle.amd_plain.proofs.start.first_sizes.Given as goal

abbrev pub invariant-rows : goal.invariant-rows
invariant-rows g l = record {
  room : length l.degrees ≤ vec_capacity l.sizes;
  size : length l.sizes.items ≡ l.i;
  each : (a : ℕ) → a < l.i → num l.sizes.items a ≡ cond (nat_lt 0 (num l.degrees a) && not (mark_at l.last a)) 1 0;
}
