-- Each turn writes one line more.
use Rattle.std.proofs.Common.{arith}
use Rattle.std.proofs.KnownBytes.{Appends-nil}
use Rattle.amd_report.specs.Texts.{tree_line}
use Rattle.amd_report.proofs.Pieces.{pieces-next, pieces-whole}
use Rattle.amd_report.proofs.tree.write_tree.Goals as goal

pub columns-init : goal.columns-init
columns-init g c = Appends-nil _

pub columns-preserved : goal.columns-preserved
columns-preserved g c =
    pieces-next tree_line _ _ _ _ _ _ (omega arith) c.columns.invariant
    (rw c.tree_number-number.ensures at c.in_ok-writeln.ensures.bytes)

pub returns : goal.returns
returns g c = pieces-whole tree_line _ _ _ _ (omega arith) c.columns.invariant
