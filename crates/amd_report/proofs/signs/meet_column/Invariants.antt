-- The signs and the degrees with the entries so far.
use Rattle.std.proofs.Common.{◌≡◌, length}
use Rattle.std.specs.Prelude.{slice_set}
use Rattle.amd_types.specs.Naturals.{count_graph}
use Rattle.amd_edges.specs.Visits.{AreCounts}
use Rattle.amd_report.specs.Signs.{HaveSigns, edge_met}
use Rattle.amd_report.proofs.signs.meet_column.Given as goal

abbrev pub invariant-places : goal.invariant-places
invariant-places l = record {
  signed : length l.signs ≡ length l.fn.signs;
  sized : length l.degrees ≡ length l.fn.degrees;
  signs : HaveSigns l.a_p l.a_i l.column l.place l.signs;
  degrees : AreCounts (count_graph (length l.fn.degrees) l.a_p l.a_i)
      (edge_met (length l.fn.degrees) l.a_p l.a_i l.column l.place) (slice_set l.degrees l.column l.degree);
}
