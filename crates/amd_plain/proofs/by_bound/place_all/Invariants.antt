use Rattle.std.proofs.Common.{ℕ, true, ◌≡◌, ◌≤◌, ◌⊎◌, ◌++◌, length, drop}
use Rattle.std.specs.Prelude.{filter, ◌==◌}
use Rattle.amd_model.specs.Quotient.{has}
use Rattle.amd_plain.specs.Views.{num, list_at, ListsBelow}
use Rattle.amd_plain.proofs.by_bound.place_all.Given as goal

abbrev pub invariant-loop-i : goal.invariant-loop-i
invariant-loop-i g l = record {
  range : ListsBelow (length l.bound) l.lists.items;
  placed : (b : ℕ) → list_at l.lists.items b ++ filter (λ i. num l.bound i == b) (drop l.i-index l.made) ≡ list_at l.fn.lists.items
      b ++ filter (λ i. num l.bound i == b) l.made;
  before : l.least ≤ l.fn.least;
  least : (i : ℕ) → has l.made i ≡ true → (has (drop l.i-index l.made) i ≡ true) ⊎ (l.least ≤ num l.bound i);
  one : (l.least ≡ l.fn.least) ⊎ ((i : ℕ) × (has l.made i ≡ true) × (l.least ≡ num l.bound i));
}
