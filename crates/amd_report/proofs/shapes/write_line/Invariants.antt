-- The runs so far are written, but for one that goes on.
use Rattle.amd_report.specs.Pictures.{TellsRuns}
use Rattle.amd_report.proofs.shapes.write_line.Given as goal

abbrev pub invariant-cells : goal.invariant-cells
invariant-cells g l =
    TellsRuns l.line l.kinds l.kind l.cell l.begin (g.W.Write.contents l.fn.out) (g.W.Write.contents l.out)
