use Rattle.std.proofs.Common.{◌≡◌, ◌∷◌, ℕ, take, length, cond}
use Rattle.amd_model.specs.Quotient.{has, turned}
use Rattle.amd_plain.specs.Views.{list_at, ListsBelow}
use Rattle.amd_plain.proofs.bounds.renew_lists.Given as goal

abbrev pub invariant-loop-i : goal.invariant-loop-i
invariant-loop-i g l = record {
  new_elements : (i : ℕ) → list_at l.lists.elements.items i ≡ cond (has (take l.i-index l.made) i)
      (l.pivot ∷ turned (list_at l.initial.lists.elements.items i)) (list_at l.initial.lists.elements.items i);
  new_variables : (i : ℕ) → list_at l.lists.variables.items i ≡ cond (has (take l.i-index l.made) i)
      (turned (list_at l.initial.lists.variables.items i)) (list_at l.initial.lists.variables.items i);
  members : l.lists.members ≡ l.initial.lists.members;
  elements : ListsBelow (length l.initial.lists.elements.items) l.lists.elements.items;
  variables : ListsBelow (length l.initial.lists.elements.items) l.lists.variables.items;
}
