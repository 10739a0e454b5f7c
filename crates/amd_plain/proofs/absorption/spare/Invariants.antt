use Rattle.std.proofs.Common.{ℕ, ◌≡◌, ◌&&◌, not, nat_eq, cond, length, take, false}
use Rattle.amd_model.specs.Quotient.{has}
use Rattle.amd_plain.specs.Views.{num, mark_at}
use Rattle.amd_plain.proofs.absorption.spare.Given as goal

abbrev pub invariant-loop-e : goal.invariant-loop-e
invariant-loop-e g l = record {
  size : length l.taken.items ≡ length l.fn.taken.items;
  spared : (e : ℕ) → mark_at l.taken.items e ≡ cond (has (take l.e-index l.touched) e && not (l.aggressive && nat_eq (num l.beyond e) 0))
      false
      (mark_at l.fn.taken.items e);
}
