-- The kinds so far are those of the cells.
use Rattle.std.proofs.Common.{◌≡◌, ◌<◌, ℕ, length}
use Rattle.std.specs.Prelude.{slice_index}
use Rattle.amd_report.specs.Kinds.{kind_of}
use Rattle.amd_report.proofs.kinds.kinds_of.Given as goal

abbrev pub invariant-cells : goal.invariant-cells
invariant-cells g l =
    (length l.kinds.items ≡ l.cell)
    × ((cell : ℕ) → cell < l.cell →
    slice_index l.kinds.items cell ≡ kind_of (slice_index l.entries cell) (slice_index l.fill cell))
