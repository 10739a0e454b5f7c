-- Each turn writes one line more.
use Rattle.std.proofs.Common.{◌++◌, [], subst}
use Rattle.std.proofs.KnownBytes.{Appends-nil, Appends-trans}
use Rattle.amd_report.specs.Pictures.{TellsLine, TellsLines}
use Rattle.amd_report.proofs.shapes.write_lines.Goals as goal

pub lines-init : goal.lines-init
lines-init g c = ([], TellsLines.none, Appends-nil _)

pub lines-preserved : goal.lines-preserved
lines-preserved g c =
    let before = c.lines.invariant in
    let more = c.in_ok-write_line.ensures in
    let line = subst (λ z. TellsLine c.lines.line z c.args.kind more.0) c.cells_of.ensures more.1 in
    (before.0 ++ more.0, TellsLines.next before.1 line, Appends-trans _ _ _ _ _ before.2 more.2)
