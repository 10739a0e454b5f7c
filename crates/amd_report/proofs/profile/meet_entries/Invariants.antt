-- The first ones with the entries of the columns so far.
use Rattle.std.proofs.Common.{◌≡◌, length}
use Rattle.amd_report.specs.Passes.{AreFirsts}
use Rattle.amd_report.proofs.profile.meet_entries.Given as goal

abbrev pub invariant-columns : goal.invariant-columns
invariant-columns l = record {
  size : length l.firsts ≡ l.n;
  firsts : AreFirsts l.a_p l.a_i l.column 0 l.firsts;
}
