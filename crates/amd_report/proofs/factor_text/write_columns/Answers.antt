-- Each turn writes one line more.
use Rattle.amd_report.proofs.FactorLines.{columns-next}
use Rattle.amd_report.proofs.factor_text.write_columns.Goals as goal

pub columns-preserved : goal.columns-preserved
columns-preserved g c =
    let above = rw c.parent_at-parent.ensures at c.row_at_parent-above.ensures in
    columns-next c.args.p.now c.args.sizes.now c.args.parents.now c.columns.k _ _ _ _ _ _
    c.number_at-row.ensures above c.size_at-size.ensures c.columns.invariant c.in_ok-writeln.ensures.bytes
