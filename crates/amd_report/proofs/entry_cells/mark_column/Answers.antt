-- Each turn marks one entry more.
use Rattle.amd_report.proofs.Cells.{cells-then, column-next}
use Rattle.amd_report.proofs.entry_cells.mark_column.Goals as goal

pub rows-preserved : goal.rows-preserved
rows-preserved g c = (
  cells-then _ _ _ c.rows.invariant.0 c.mark_entry.ensures.same,
  column-next _ _ _ c.args.mirrored c.args.places.now c.args.rows.now c.args.column c.rows.row-index 0 _ c.rows-test.true
      c.place_of-place.ensures c.rows.invariant.1 c.mark_entry.ensures.shows,
)
