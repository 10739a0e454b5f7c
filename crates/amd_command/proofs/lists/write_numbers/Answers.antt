-- Each turn writes one line more.
use Rattle.std.proofs.Common.{arith}
use Rattle.std.proofs.KnownBytes.{Appends-nil}
use Rattle.amd_report.proofs.Pieces.{pieces-next, pieces-whole}
use Rattle.amd_command.specs.Lists.{number_line}
use Rattle.amd_command.proofs.lists.write_numbers.Goals as goal

pub places-init : goal.places-init
places-init g c = Appends-nil _

pub places-preserved : goal.places-preserved
places-preserved g c = pieces-next number_line _ _ _ _ _ _ (omega arith) c.places.invariant c.in_ok-writeln.ensures.bytes

pub returns : goal.returns
returns g c = pieces-whole number_line _ _ _ _ (omega arith) c.places.invariant
