-- Each turn marks the fill of one column more.
use Rattle.std.proofs.Common.{◌≡◌, ◌≢◌, ◌+◌, ◌%◌, length, arith, subst, ◌∙◌}
use Rattle.std.specs.Prelude.{max}
use Rattle.amd_report.specs.Fills.{AddsFill, IsColumnFill, IsPartFill, IsReady}
use Rattle.amd_report.proofs.Cells.{covers-same}
use Rattle.amd_report.proofs.Filling.{part-next, same-column}
use Rattle.amd_report.proofs.fills.mark_supernode.Goals as goal

pub columns-preserved : goal.columns-preserved
columns-preserved g c =
    let i = c.columns.invariant in
    let e = c.in_ok-mark_column.ensures in
    let same = e.adds.same in (
      e.room ∙ i.0,
      covers-same c.columns.grid c.mark_column.new.grid (length c.args.work.now.edge.items) same i.1,
      e.stamps,
      part-next c.args.grid.now c.columns.grid c.mark_column.new.grid (length c.args.work.now.edge.items) c.args.first c.columns.k
          c.args.end c.args.below.now c.args.starts.now c.args.later.now _ c.columns.auto.k c.rows_between-near.ensures i.3
          (subst (λ z. AddsFill c.columns.grid c.mark_column.new.grid z
          (IsColumnFill c.columns.k c.args.end c.args.below.now c.rows_between-near.result.now)) i.0 e.adds),
      (λ ne over. subst (λ z. IsReady c.mark_column.new.grid z (c.columns.k + 1) c.args.end c.args.below.now
          c.mark_column.new.work.open.items) i.0
          (e.ready (same-column c.columns.k (max c.columns.grid.step 1) (omega arith)
          (subst (λ z. (c.columns.k + 1) % max z 1 ≢ 0) same.step over)))),
    )

pub returns-clause-adds : goal.returns-clause-adds
returns-clause-adds g c =
    let t = c.columns-test.false in
    let b = c.columns.auto.k-end c.requires.order in
    let e : c.columns.k ≡ c.args.end = omega (arith, t, b) in
    subst (λ z. AddsFill c.args.grid.now c.columns.grid (length c.args.work.now.edge.items)
    (IsPartFill c.args.first z c.args.end c.args.below.now c.args.starts.now c.args.later.now)) e c.columns.invariant.3
