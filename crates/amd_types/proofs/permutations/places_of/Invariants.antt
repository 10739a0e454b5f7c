use Rattle.std.proofs.Common.{◌≡◌, ◌<◌, ℕ, map, pos, get_or, length}
use Rattle.amd_model.specs.Input.Columns.{at}
use Rattle.amd_types.proofs.permutations.places_of.Given as goal

abbrev pub invariant-rows : goal.invariant-rows
invariant-rows g l = record {
  room : length l.places.items ≡ length l.rows;
  written : (j : ℕ) → j < l.k → at (map g.I.Index.value l.places.items) (get_or l.rows j 0) ≡ pos j;
}
