use Rattle.std.proofs.Common.{ℕ, ◌≡◌, ◌≤◌, ◌<◌, length}
use Rattle.std.specs.Prelude.{cond, not, nat_eq, ◌&&◌}
use Rattle.std.specs.Vec.{vec_capacity}
use Rattle.amd_plain.specs.Views.{mark_at, num}
use Rattle.amd_plain.proofs.start.first_blocks.Given as goal

abbrev pub invariant-rows : goal.invariant-rows
invariant-rows g l = record {
  room : length l.degrees ≤ vec_capacity l.blocks;
  size : length l.blocks.items ≡ l.i;
  each : (a : ℕ) → a < l.i → num l.blocks.items a ≡ cond (nat_eq (num l.degrees a) 0 && not (mark_at l.last a)) 1 0;
}
