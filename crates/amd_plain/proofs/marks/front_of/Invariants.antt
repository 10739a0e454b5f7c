use Rattle.std.proofs.Common.{ℕ, ◌≡◌, ◌||◌, [], drop, length, fold, flat_map}
use Rattle.std.specs.Prelude.{◌==◌}
use Rattle.amd_model.specs.Quotient.{has, add_new}
use Rattle.amd_plain.specs.Views.{mark_at, list_at, plain_live}
use Rattle.amd_plain.proofs.marks.front_of.Given as goal

abbrev pub invariant-elements : goal.invariant-elements
invariant-elements g l = record {
  size : length l.marks.items ≡ length l.fn.marks.items;
  list : fold (add_new (λ x. x == l.pivot)) l.front.items (flat_map (λ e. plain_live l.size (list_at l.lists.members.items e))
      (drop l.e-index (list_at l.lists.elements.items l.pivot)))
      ≡ fold (add_new (λ x. x == l.pivot)) [] (flat_map (λ e. plain_live l.size (list_at l.lists.members.items e))
      (list_at l.lists.elements.items l.pivot));
  marked : (j : ℕ) → mark_at l.marks.items j ≡ (j == l.pivot || has l.front.items j);
}
