-- Each turn writes the lines of one column.
use Rattle.std.proofs.KnownBytes.{Appends-nil}
use Rattle.amd_report.proofs.Entries.{entries-next}
use Rattle.amd_report.proofs.pattern.write_entries.Goals as goal

pub columns-init : goal.columns-init
columns-init g c = Appends-nil _

pub columns-preserved : goal.columns-preserved
columns-preserved g c =
    entries-next c.args.matrix.now.a_p.items c.args.matrix.now.a_i.items _ _ _ _ _ c.rows_of-rows.ensures c.columns.invariant
    c.in_ok-write_column.ensures
