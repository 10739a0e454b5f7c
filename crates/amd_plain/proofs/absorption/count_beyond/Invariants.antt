use Rattle.std.proofs.Common.{ℕ, true, ◌≡◌, length, take}
use Rattle.amd_model.specs.Quotient.{has}
use Rattle.amd_plain.specs.Views.{num}
use Rattle.amd_plain.specs.Rounds.{plain_rows_left}
use Rattle.amd_plain.proofs.absorption.count_beyond.Given as goal

abbrev pub invariant-loop-i : goal.invariant-loop-i
invariant-loop-i g l = record {
  size : length l.beyond.items ≡ length l.fn.beyond.items;
  counted : (e : ℕ) → has l.touched e ≡ true → num l.beyond.items e ≡ plain_rows_left l.block l.whole l.size l.elements.items
      (take l.i-index l.front) e;
}
