use Rattle.std.proofs.Common.{ℕ, true, [], ◌≡◌, ◌<◌, ◌≤◌, ◌-◌, ◌⊎◌, length}
use Rattle.amd_model.specs.Quotient.{has}
use Rattle.amd_plain.specs.Views.{list_at, ListsBelow}
use Rattle.amd_plain.specs.ListsByBound.{live_in}
use Rattle.amd_plain.proofs.by_bound.choose.Given as goal

abbrev pub invariant-bounds : goal.invariant-bounds
invariant-bounds g l = record {
  range : ListsBelow (length l.size) l.lists.items;
  rise : l.fn.least ≤ l.least;
  some : (b : ℕ) × (i : ℕ) × (l.least ≤ b) × (has (live_in l.size l.bound b (list_at l.fn.lists.items b)) i ≡ true);
  lower : (b : ℕ) → l.fn.least ≤ b → b < l.least → (list_at l.lists.items b ≡ [])
      × (live_in l.size l.bound b (list_at l.fn.lists.items b) ≡ []);
  others : (b : ℕ) → (b < l.fn.least) ⊎ (l.least ≤ b) → list_at l.lists.items b ≡ list_at l.fn.lists.items b;
}

abbrev pub decreases-bounds : goal.decreases-bounds
decreases-bounds g l = length l.size - l.least
