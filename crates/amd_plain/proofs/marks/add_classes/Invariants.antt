use Rattle.std.proofs.Common.{ℕ, ◌≡◌, ◌||◌, drop, length, fold}
use Rattle.amd_model.specs.Quotient.{has, add_new}
use Rattle.amd_plain.specs.Views.{mark_at, plain_live}
use Rattle.amd_plain.proofs.MarkLists.{Known}
use Rattle.amd_plain.proofs.marks.add_classes.Given as goal

abbrev pub invariant-loop-j : goal.invariant-loop-j
invariant-loop-j g l = record {
  size : length l.marks.items ≡ length l.fn.marks.items;
  known : Known l.marks.items l.out.items;
  list : fold (add_new (mark_at l.marks.items)) l.out.items (plain_live l.size (drop l.j-index l.list))
      ≡ fold (add_new (mark_at l.fn.marks.items))
      l.fn.out.items (plain_live l.size l.list);
  marked : (j : ℕ) → (mark_at l.marks.items j || has (plain_live l.size (drop l.j-index l.list)) j) ≡
      (mark_at l.fn.marks.items j || has (plain_live l.size l.list) j);
}
