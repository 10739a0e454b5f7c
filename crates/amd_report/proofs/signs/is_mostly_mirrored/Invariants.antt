-- No more columns were counted than were judged.
use Rattle.std.proofs.Common.{◌≤◌}
use Rattle.amd_report.proofs.signs.is_mostly_mirrored.Given as goal

abbrev pub invariant-samples : goal.invariant-samples
invariant-samples l = l.lacking ≤ l.sample
