use Rattle.std.proofs.Common.{ℕ, ◌≡◌, ◌&&◌, not, drop, length}
use Rattle.amd_model.specs.Quotient.{has}
use Rattle.amd_plain.specs.Views.{mark_at}
use Rattle.amd_plain.proofs.marks.clear_all.Given as goal

abbrev pub invariant-loop-j : goal.invariant-loop-j
invariant-loop-j g l = record {
  size : length l.marks.items ≡ length l.fn.marks.items;
  cleared : (j : ℕ) → (mark_at l.marks.items j && not (has (drop l.j-index l.list) j)) ≡ (mark_at l.fn.marks.items j && not (has l.list j));
}
