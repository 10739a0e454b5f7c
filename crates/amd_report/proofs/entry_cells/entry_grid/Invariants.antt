-- The entries of the columns so far are marked.
use Rattle.amd_report.specs.Grids.{IsSquareFor, ShowsPlaces, entry_places}
use Rattle.amd_report.proofs.entry_cells.entry_grid.Given as goal

abbrev pub invariant-columns : goal.invariant-columns
invariant-columns g l =
    IsSquareFor l.grid l.n × ShowsPlaces l.grid (entry_places l.mirrored l.places l.a_p l.a_i l.j)
