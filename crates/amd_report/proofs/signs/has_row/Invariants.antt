-- The rows before the lower place are less than the row, and those from the higher one on are not.
use Rattle.std.proofs.Common.{◌<◌, ◌≤◌, ◌-◌, ℕ}
use Rattle.std.specs.Prelude.{slice_index}
use Rattle.amd_report.proofs.signs.has_row.Given as goal

abbrev pub invariant-halves : goal.invariant-halves
invariant-halves l = record {
  from : slice_index l.a_p l.column ≤ l.low;
  between : l.low ≤ l.high;
  to : l.high ≤ l.end;
  less : (q : ℕ) → slice_index l.a_p l.column ≤ q → q < l.low → slice_index l.a_i q < l.row;
  more : (q : ℕ) → l.high ≤ q → q < l.end → l.row ≤ slice_index l.a_i q;
}

abbrev pub decreases-halves : goal.decreases-halves
decreases-halves l = l.high - l.low
