-- The rows so far are written.
use Rattle.std.proofs.Common.{take}
use Rattle.std.specs.Io.KnownBytes.{Appends}
use Rattle.amd_report.specs.Json.{more_rows}
use Rattle.amd_report.proofs.json.write_more_rows.Given as goal

abbrev pub invariant-places : goal.invariant-places
invariant-places g l =
    Appends (g.W.Write.contents l.fn.out) (g.W.Write.contents l.out) (more_rows (take l.row-index l.rows))
