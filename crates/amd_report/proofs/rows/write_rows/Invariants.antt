-- The rows so far are written.
use Rattle.std.proofs.Common.{take}
use Rattle.std.specs.Io.KnownBytes.{Appends}
use Rattle.amd_report.specs.Texts.{row_lines}
use Rattle.amd_report.proofs.rows.write_rows.Given as goal

abbrev pub invariant-places : goal.invariant-places
invariant-places g l = Appends (g.W.Write.contents l.fn.out) (g.W.Write.contents l.out) (row_lines (take l.row-index l.p))
