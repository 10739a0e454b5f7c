use Rattle.std.proofs.Common.{ℕ, ◌≡◌, ◌-◌, cond, length, take}
use Rattle.amd_model.specs.Quotient.{has}
use Rattle.amd_plain.specs.Views.{num}
use Rattle.amd_plain.proofs.absorption.count_borders.Given as goal

abbrev pub invariant-loop-e : goal.invariant-loop-e
invariant-loop-e g l = record {
  size : length l.beyond.items ≡ length l.fn.beyond.items;
  counted : (e : ℕ) → num l.beyond.items e ≡ cond (has (take l.e-index l.touched) e) (num l.whole e - num l.block e)
      (num l.fn.beyond.items e);
}
