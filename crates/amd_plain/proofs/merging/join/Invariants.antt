use Rattle.std.proofs.Common.{◌≡◌, ℕ, take, length, cond, not}
use Rattle.std.specs.Prelude.{◌==◌, Some}
use Rattle.amd_model.specs.Quotient.{has}
use Rattle.amd_plain.specs.Views.{num, some_at}
use Rattle.amd_plain.proofs.Joins.{Merged}
use Rattle.amd_plain.proofs.merging.join.Given as goal

abbrev pub invariant-loop-i : goal.invariant-loop-i
invariant-loop-i g l = record {
  sizes : Merged l.rest (num l.into) (num l.initial.size.items) l.i-index (num l.size.items);
  links : (x : ℕ) → some_at l.link.items x ≡ cond (has (take l.i-index l.rest) x)
      (cond (not (num l.into x == x)) (Some (num l.into x)) (some_at l.initial.link.items x)) (some_at l.initial.link.items x);
  size_room : length l.size.items ≡ length l.initial.size.items;
  link_room : length l.link.items ≡ length l.initial.link.items;
}
