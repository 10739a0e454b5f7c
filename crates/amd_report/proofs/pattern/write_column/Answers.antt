-- Each turn writes one line more.
use Rattle.std.proofs.Common.{arith}
use Rattle.std.proofs.KnownBytes.{Appends-nil}
use Rattle.amd_report.specs.Patterns.{entry_line}
use Rattle.amd_report.proofs.Pieces.{pieces-next, pieces-whole}
use Rattle.amd_report.proofs.pattern.write_column.Goals as goal

pub rows-init : goal.rows-init
rows-init g c = Appends-nil _

pub rows-preserved : goal.rows-preserved
rows-preserved g c =
    pieces-next (entry_line c.args.column) _ _ _ _ _ _ (omega arith) c.rows.invariant c.in_ok-writeln.ensures.bytes

pub returns : goal.returns
returns g c = pieces-whole (entry_line c.args.column) _ _ _ _ (omega arith) c.rows.invariant
