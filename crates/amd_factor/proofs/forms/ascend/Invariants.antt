use Rattle.std.proofs.Common.{◌≡◌, ◌<◌, ◌+◌, ℕ, ℤ, List, true, false, map}
use Rattle.std.specs.Prelude.{◌≤ℤ◌, ◌<ℤ◌}
use Rattle.amd_model.specs.Input.Columns.{at}
use Rattle.amd_factor.proofs.forms.ascend.Given as goal

abbrev pub invariant-pointers : goal.invariant-pointers
invariant-pointers g l = let ap : List ℤ = map g.I.Index.value l.a_p in record {
  ascend : l.ascending ≡ true → (j : ℕ) → j < l.j → at ap j ≤ℤ at ap (j + 1);
  descend : l.ascending ≡ false → (j : ℕ) × (j < l.j) × (at ap (j + 1) <ℤ at ap j);
}
