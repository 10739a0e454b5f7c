use Rattle.std.proofs.Common.{ℕ, ◌≡◌, ◌||◌, drop, length}
use Rattle.amd_model.specs.Quotient.{has}
use Rattle.amd_plain.specs.Views.{mark_at}
use Rattle.amd_plain.proofs.marks.mark_all.Given as goal

abbrev pub invariant-loop-j : goal.invariant-loop-j
invariant-loop-j g l = record {
  size : length l.marks.items ≡ length l.fn.marks.items;
  marked : (j : ℕ) → (mark_at l.marks.items j || has (drop l.j-index l.list) j) ≡ (mark_at l.fn.marks.items j || has l.list j);
}
