use Rattle.std.proofs.Common.{ℕ, ◌≡◌, ◌&&◌, cond, length, take, Some}
use Rattle.amd_model.specs.Quotient.{has}
use Rattle.amd_plain.specs.Views.{num, some_at}
use Rattle.amd_plain.specs.Rounds.{plain_mass}
use Rattle.amd_plain.proofs.absorption.retire.Given as goal

abbrev pub invariant-loop-i : goal.invariant-loop-i
invariant-loop-i g l = record {
  sizes : (x : ℕ) → num l.size.items x ≡ cond (has (take l.i-index l.front) x && plain_mass l.lists.elements.items l.lists.variables.items
      x) 0 (num l.fn.size.items x);
  links : (x : ℕ) → some_at l.link.items x ≡ cond (has (take l.i-index l.front) x && plain_mass l.lists.elements.items
      l.lists.variables.items x) (Some l.pivot) (some_at l.fn.link.items x);
  size : length l.size.items ≡ length l.fn.size.items;
  link : length l.link.items ≡ length l.fn.link.items;
}
