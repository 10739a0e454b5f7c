use Rattle.std.proofs.Common.{◌≡◌, ◌+◌, ◌++◌, ℕ, List, map, set}
use Rattle.amd_types.specs.Naturals.{naturals, count_graph, is_entry}
use Rattle.amd_edges.specs.Visits.{arcs_of}
use Rattle.amd_edges.specs.Walk.{IsReadTo, met}
use Rattle.amd_edges.proofs.Orders.{met_above}
use Rattle.amd_edges.proofs.Reading.{IsReading}
use Rattle.amd_edges.proofs.walk.column_end.Given as goal

abbrev pub invariant-rows : goal.invariant-rows
invariant-rows g l = (b : ℕ) × record {
  place : IsReading (naturals (map g.I.Index.value l.a_i)) l.first l.end l.size b l.place;
  kept : g.V.Visitor.room l.visitor ≡ g.V.Visitor.room l.fn.visitor;
  held : (t : List ℕ) (arcs : List (ℕ × ℕ)) → IsReadTo l.size (map g.I.Index.value l.a_p) (map g.I.Index.value l.a_i) t l.j l.first →
      g.V.Visitor.holds (count_graph l.size (naturals (map g.I.Index.value l.a_p)) (naturals (map g.I.Index.value l.a_i)))
      (met l.size (naturals (map g.I.Index.value l.a_p)) (naturals (map g.I.Index.value l.a_i)) t l.size (l.j + 1)) arcs
      l.fn.visitor →
      g.V.Visitor.runs (count_graph l.size (naturals (map g.I.Index.value l.a_p)) (naturals (map g.I.Index.value l.a_i)))
      (met l.size (naturals (map g.I.Index.value l.a_p)) (naturals (map g.I.Index.value l.a_i)) (set t l.j l.place) l.size
      (l.j + 1)) (arcs ++ arcs_of (met_above (is_entry l.size (naturals (map g.I.Index.value l.a_p)) (naturals (map g.I.Index.value l.a_i)))
      l.size l.j b)) l.j l.mark l.visitor;
}
