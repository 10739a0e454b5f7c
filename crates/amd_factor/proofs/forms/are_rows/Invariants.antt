use Rattle.std.proofs.Common.{◌≡◌, ◌<◌, ℕ, ℤ, List, true, false, map}
use Rattle.amd_model.specs.Input.Columns.{at, IsRow}
use Rattle.amd_factor.proofs.forms.are_rows.Given as goal

abbrev pub invariant-rows : goal.invariant-rows
invariant-rows g l = let ai : List ℤ = map g.I.Index.value l.a_i in record {
  are : l.rows ≡ true → (k : ℕ) → k < l.k → IsRow (g.I.Index.value l.n) (at ai k);
  are_not : l.rows ≡ false → (k : ℕ) × (k < l.k) × (¬ (IsRow (g.I.Index.value l.n) (at ai k)));
}
