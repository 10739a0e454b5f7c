use Rattle.std.proofs.Common.{ℕ, ◌≡◌, ◌||◌, [], drop, length, fold, flat_map}
use Rattle.amd_model.specs.Quotient.{has, add_new}
use Rattle.amd_plain.specs.Views.{mark_at, list_at}
use Rattle.amd_plain.proofs.marks.touched_by.Given as goal

abbrev pub invariant-front : goal.invariant-front
invariant-front g l = record {
  size : length l.marks.items ≡ length l.fn.marks.items;
  list : fold (add_new (has (list_at l.elements.items l.pivot))) l.out.items (flat_map (list_at l.elements.items) (drop l.i-index l.front))
      ≡ fold (add_new (has (list_at l.elements.items l.pivot))) [] (flat_map (list_at l.elements.items) l.front);
  marked : (j : ℕ) → mark_at l.marks.items j ≡ (has (list_at l.elements.items l.pivot) j || has l.out.items j);
}
