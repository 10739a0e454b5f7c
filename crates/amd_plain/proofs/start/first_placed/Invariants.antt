use Rattle.std.proofs.Common.{◌≡◌, ℕ, length}
use Rattle.std.specs.Prelude.{nat_lt, ◌&&◌, ◌==◌}
use Rattle.amd_model.specs.Below.{list_below}
use Rattle.amd_plain.specs.Views.{num, list_at, ListsBelow}
use Rattle.amd_plain.proofs.start.first_placed.Given as goal

abbrev pub invariant-rows : goal.invariant-rows
invariant-rows g l = record {
  range : ListsBelow (length l.degrees) l.placed.items;
  lists : (b : ℕ) → list_at l.placed.items b ≡ list_below l.i (λ i. nat_lt 0 (num l.size i) && num l.degrees i == b);
}
