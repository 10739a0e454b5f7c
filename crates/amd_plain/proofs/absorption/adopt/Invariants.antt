use Rattle.std.proofs.Common.{ℕ, ◌≡◌, ◌&&◌, cond, length, take, Some}
use Rattle.amd_model.specs.Quotient.{has}
use Rattle.amd_plain.specs.Views.{mark_at, some_at}
use Rattle.amd_plain.proofs.absorption.adopt.Given as goal

abbrev pub invariant-loop-e : goal.invariant-loop-e
invariant-loop-e g l = record {
  size : length l.parent.items ≡ length l.fn.parent.items;
  adopted : (e : ℕ) → some_at l.parent.items e ≡ cond (has (take l.e-index l.list) e && mark_at l.taken e) (Some l.pivot)
      (some_at l.fn.parent.items e);
}
