use Rattle.std.proofs.Common.{ℕ, ◌≡◌, ◌&&◌, not, nat_lt, cond, length, take, filter}
use Rattle.amd_model.specs.Quotient.{has}
use Rattle.amd_plain.specs.Views.{num, mark_at, list_at, ListsBelow}
use Rattle.amd_plain.proofs.absorption.shorten.Given as goal

abbrev pub invariant-loop-i : goal.invariant-loop-i
invariant-loop-i g l = record {
  kept_elements : (i : ℕ) → list_at l.lists.elements.items i ≡ cond (has (take l.i-index l.front) i)
      (filter (λ e. not (mark_at l.taken e)) (list_at l.fn.lists.elements.items i)) (list_at l.fn.lists.elements.items i);
  kept_variables : (i : ℕ) → list_at l.lists.variables.items i ≡ cond (has (take l.i-index l.front) i)
      (filter (λ j. nat_lt 0 (num l.size j) && not (mark_at l.marks j)) (list_at l.fn.lists.variables.items i))
      (list_at l.fn.lists.variables.items i);
  members : l.lists.members ≡ l.fn.lists.members;
  elements : ListsBelow (length l.size) l.lists.elements.items;
  variables : ListsBelow (length l.size) l.lists.variables.items;
}
