-- The first ones with the entries so far.
use Rattle.std.proofs.Common.{◌≡◌, length}
use Rattle.amd_report.specs.Passes.{AreFirsts}
use Rattle.amd_report.proofs.profile.meet_column.Given as goal

abbrev pub invariant-places : goal.invariant-places
invariant-places l = record {
  size : length l.firsts ≡ length l.fn.firsts;
  firsts : AreFirsts l.a_p l.a_i l.column l.place l.firsts;
}
