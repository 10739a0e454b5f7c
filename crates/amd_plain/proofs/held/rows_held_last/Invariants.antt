use Rattle.std.proofs.Common.{ℕ, ◌≡◌, ◌≤◌, ◌<◌, ◌||◌, length}
use Rattle.std.specs.Prelude.{nat_lt}
use Rattle.std.specs.Option.{option_copied}
use Rattle.std.specs.Vec.{vec_capacity}
use Rattle.amd_model.specs.Input.Held.{is_marked}
use Rattle.amd_plain.specs.Views.{mark_at, num}
use Rattle.amd_plain.proofs.held.rows_held_last.Given as goal

abbrev pub invariant-rows : goal.invariant-rows
invariant-rows g l = record {
  room : length l.degrees ≤ vec_capacity l.last;
  size : length l.last.items ≡ l.i;
  each : (a : ℕ) → a < l.i → mark_at l.last.items a ≡ (is_marked (option_copied l.hold) a || nat_lt l.threshold (num l.degrees a));
}
