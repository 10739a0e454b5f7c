-- The rows so far are written.
use Rattle.std.proofs.Common.{take}
use Rattle.std.specs.Prelude.{flat_map}
use Rattle.std.specs.Io.KnownBytes.{Appends}
use Rattle.amd_report.specs.Patterns.{entry_line}
use Rattle.amd_report.proofs.pattern.write_column.Given as goal

abbrev pub invariant-rows : goal.invariant-rows
invariant-rows g l =
    Appends (g.W.Write.contents l.fn.out) (g.W.Write.contents l.out) (flat_map (entry_line l.column) (take l.row-index l.rows))
