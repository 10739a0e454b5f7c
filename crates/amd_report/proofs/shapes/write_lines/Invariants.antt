-- The lines so far are written.
use Rattle.std.proofs.Common.{ℕ, List}
use Rattle.std.specs.Io.KnownBytes.{Appends}
use Rattle.amd_report.specs.Pictures.{TellsLines}
use Rattle.amd_report.proofs.shapes.write_lines.Given as goal

abbrev pub invariant-lines : goal.invariant-lines
invariant-lines g l = (text : List ℕ) × TellsLines l.side l.kinds l.kind l.line text ×
    Appends (g.W.Write.contents l.fn.out) (g.W.Write.contents l.out) text
