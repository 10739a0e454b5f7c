-- The supernodes so far are shown.
use Rattle.amd_report.specs.Canvases.{ShowsFronts}
use Rattle.amd_report.proofs.canvas.canvas_of.Given as goal

abbrev pub invariant-supernodes : goal.invariant-supernodes
invariant-supernodes g l =
    ShowsFronts l.canvas l.first l.ptr l.layout.left.items l.layout.width.items l.layout.level.items l.s
