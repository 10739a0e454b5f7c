-- Each turn adds the pairs of one column.
use Rattle.amd_command.proofs.Placing.{pairs-next}
use Rattle.amd_command.proofs.permuted.placed_entries.Goals as goal

pub columns-preserved : goal.columns-preserved
columns-preserved g c =
    pairs-next c.args.places.now c.args.matrix.now.a_p.items c.args.matrix.now.a_i.items _ _ _ _ _ c.rows_of-rows.ensures
    c.place_of-column.ensures c.columns.invariant c.in_ok-add_column.ensures
