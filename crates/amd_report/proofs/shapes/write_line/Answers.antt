-- Each turn takes one cell more.
use Rattle.std.proofs.Common.{arith}
use Rattle.std.proofs.lemmas.List.{get_or_past}
use Rattle.amd_report.proofs.Runs.{runs-all, runs-none}
use Rattle.amd_report.proofs.shapes.write_line.Goals as goal

pub cells-init : goal.cells-init
cells-init g c = runs-none _ _ _ _

pub cells-preserved : goal.cells-preserved
cells-preserved g c = c.in_ok-begin.ensures _ c.cells.invariant

pub returns : goal.returns
returns g c =
    let t = c.cells-test.false in let e = c.cells.auto.cell-end in
    runs-all _ _ _ _ _ _ _ c.requires (omega (arith, t, e)) (get_or_past c.args.kinds.now c.cells.cell 0 t) c.cells.invariant
