-- The rows that are marked link to the row.
use Rattle.std.proofs.Common.{◌≡◌, ◌<◌, ℕ, true, false, length}
use Rattle.std.specs.Prelude.{slice_index, slice_index_or}
use Rattle.amd_report.proofs.components.marks_of.Given as goal

abbrev pub invariant-rows : goal.invariant-rows
invariant-rows g l = record {
  size : length l.marks.items ≡ l.link-index;
  marks : (i : ℕ) → slice_index_or l.marks.items i false ≡ true → (i < l.link-index) × (slice_index l.links i ≡ l.first);
}
