-- The rows so far are marked.
use Rattle.std.proofs.Common.{◌++◌, List, ℕ, take}
use Rattle.amd_report.specs.Grids.{SameCells, ShowsPlaces, column_places}
use Rattle.amd_report.proofs.entry_cells.mark_column.Given as goal

abbrev pub invariant-rows : goal.invariant-rows
invariant-rows g l =
    SameCells l.fn.grid l.grid
    × ((marked : List (ℕ × ℕ)) → ShowsPlaces l.fn.grid marked →
    ShowsPlaces l.grid (marked ++ column_places l.mirrored l.places l.column (take l.row-index l.rows)))
