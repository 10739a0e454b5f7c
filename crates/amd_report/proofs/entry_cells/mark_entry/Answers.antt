-- One place more, or two.
use Rattle.std.proofs.Common.{◌++◌, subst, sym}
use Rattle.amd_report.specs.Grids.{ShowsPlaces, drawn_places}
use Rattle.amd_report.proofs.Cells.{entry-alone, entry-both}
use Rattle.amd_report.proofs.entry_cells.mark_entry.Goals as goal

pub returns-then-mirrored-clause-shows : goal.returns-then-mirrored-clause-shows
returns-then-mirrored-clause-shows g c marked s =
    subst (λ b. ShowsPlaces c.mark_both.new.self (marked ++ drawn_places b c.args.row c.args.column)) (sym c.if-mirrored.true)
    (entry-both _ _ _ _ c.mark_both.ensures marked s)

pub returns-else-mirrored-clause-shows : goal.returns-else-mirrored-clause-shows
returns-else-mirrored-clause-shows g c marked s =
    subst (λ b. ShowsPlaces c.mark.new.self (marked ++ drawn_places b c.args.row c.args.column)) (sym c.if-mirrored.false)
    (entry-alone _ _ _ _ c.mark.ensures marked s)
