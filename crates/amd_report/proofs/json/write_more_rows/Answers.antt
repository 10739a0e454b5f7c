-- Each turn writes one number more.
use Rattle.std.proofs.Common.{arith}
use Rattle.std.proofs.KnownBytes.{Appends-nil}
use Rattle.amd_report.specs.Json.{one_more_row}
use Rattle.amd_report.proofs.Pieces.{pieces-next, pieces-whole}
use Rattle.amd_report.proofs.json.write_more_rows.Goals as goal

pub places-init : goal.places-init
places-init g c = Appends-nil _

pub places-preserved : goal.places-preserved
places-preserved g c = pieces-next one_more_row _ _ _ _ _ _ (omega arith) c.places.invariant c.in_ok-write.ensures.bytes

pub returns : goal.returns
returns g c = pieces-whole one_more_row _ _ _ _ (omega arith) c.places.invariant
