use Rattle.std.proofs.Common.{ℕ, ◌≡◌, ◌||◌, drop, length, fold}
use Rattle.amd_model.specs.Quotient.{has, add_new}
use Rattle.amd_plain.specs.Views.{mark_at}
use Rattle.amd_plain.proofs.MarkLists.{Known}
use Rattle.amd_plain.proofs.marks.add_unmarked.Given as goal

abbrev pub invariant-loop-j : goal.invariant-loop-j
invariant-loop-j g l = record {
  size : length l.marks.items ≡ length l.fn.marks.items;
  known : Known l.marks.items l.out.items;
  list : fold (add_new (mark_at l.marks.items)) l.out.items (drop l.j-index l.list) ≡ fold (add_new (mark_at l.fn.marks.items))
      l.fn.out.items l.list;
  marked : (j : ℕ) → (mark_at l.marks.items j || has (drop l.j-index l.list) j) ≡ (mark_at l.fn.marks.items j || has l.list j);
}
