use Rattle.std.proofs.Common.{◌≡◌, ℕ, true, false, take, length}
use Rattle.amd_model.specs.Quotient.{has}
use Rattle.amd_plain.specs.Views.{list_at}
use Rattle.amd_plain.specs.Groups.{AreGrouped}
use Rattle.amd_plain.proofs.merging.empty_groups.Given as goal

abbrev pub invariant-loop-i : goal.invariant-loop-i
invariant-loop-i g l = record {
  size : length l.groups.items ≡ length l.initial.groups.items;
  grouped : AreGrouped l.lists.elements.items l.lists.variables.items l.rest (list_at l.groups.items);
  left : (b r : ℕ) → has (list_at l.groups.items b) r ≡ true → has (take l.i-index l.rest) r ≡ false;
}
