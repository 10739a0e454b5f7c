use Rattle.std.proofs.Common.{ℕ, ◌≡◌, ◌<◌, length, cond, pos}
use Rattle.std.specs.Prelude.{nat_lt}
use Rattle.amd_model.specs.Input.Columns.{at}
use Rattle.amd_plain.specs.Views.{num}
use Rattle.amd_plain.proofs.listed.of_elements.Given as goal

abbrev pub invariant-elements : goal.invariant-elements
invariant-elements g l = record {
  size : length l.sizes.items ≡ l.e;
  each : (a : ℕ) → a < l.e → at l.sizes.items a ≡ pos (cond (nat_lt 0 (num l.block a)) (num l.numbers a) 0);
}
