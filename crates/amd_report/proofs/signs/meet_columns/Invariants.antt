-- The signs and the degrees with the entries of the columns so far.
use Rattle.std.proofs.Common.{◌≡◌, length}
use Rattle.amd_types.specs.Naturals.{count_graph}
use Rattle.amd_edges.specs.Visits.{AreCounts}
use Rattle.amd_report.specs.Signs.{HaveSigns, edge_met}
use Rattle.amd_report.proofs.signs.meet_columns.Given as goal

abbrev pub invariant-columns : goal.invariant-columns
invariant-columns l = record {
  signed : length l.signs ≡ length l.fn.signs;
  sized : length l.degrees ≡ length l.fn.degrees;
  signs : HaveSigns l.a_p l.a_i l.column 0 l.signs;
  degrees : AreCounts (count_graph (length l.fn.degrees) l.a_p l.a_i)
      (edge_met (length l.fn.degrees) l.a_p l.a_i l.column 0) l.degrees;
}
