use Rattle.std.proofs.Common.{◌≡◌, ◌≤◌, take, length}
use Rattle.std.specs.Prelude.{filter, ◌==◌}
use Rattle.std.specs.Vec.{vec_capacity}
use Rattle.amd_plain.specs.Views.{num}
use Rattle.amd_plain.proofs.merging.made_of.Given as goal

abbrev pub invariant-loop-i : goal.invariant-loop-i
invariant-loop-i g l = record {
  kept : l.made.items ≡ filter (λ i. num l.into i == i) (take l.i-index l.rest);
  few : length l.made.items ≤ l.i-index;
  room : length l.rest ≤ vec_capacity l.made;
}
