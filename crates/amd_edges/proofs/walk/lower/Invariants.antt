use Rattle.std.proofs.Common.{◌≡◌, ◌+◌, ◌-◌, ◌++◌, ℕ, List, map, get_or, set}
use Rattle.amd_types.specs.Naturals.{naturals, count_graph, is_entry}
use Rattle.amd_edges.specs.Visits.{arcs_of}
use Rattle.amd_edges.specs.Walk.{met}
use Rattle.amd_edges.proofs.Orders.{met_above}
use Rattle.amd_edges.proofs.Reading.{IsReading}
use Rattle.amd_edges.proofs.walk.lower.Given as goal

abbrev pub invariant-rows : goal.invariant-rows
invariant-rows g l = (b : ℕ) × record {
  place : IsReading (naturals (map g.I.Index.value l.a_i)) (get_or l.next.items l.j 0) l.end l.k b l.place;
  kept : g.V.Visitor.room l.visitor ≡ g.V.Visitor.room l.fn.visitor;
  held : (arcs : List (ℕ × ℕ)) →
      g.V.Visitor.holds (count_graph l.size (naturals (map g.I.Index.value l.a_p)) (naturals (map g.I.Index.value l.a_i)))
      (met l.size (naturals (map g.I.Index.value l.a_p)) (naturals (map g.I.Index.value l.a_i)) l.next.items l.k (l.j + 1)) arcs
      l.fn.visitor →
      g.V.Visitor.runs (count_graph l.size (naturals (map g.I.Index.value l.a_p)) (naturals (map g.I.Index.value l.a_i)))
      (met l.size (naturals (map g.I.Index.value l.a_p)) (naturals (map g.I.Index.value l.a_i)) (set l.next.items l.j l.place) l.k
      (l.j + 1)) (arcs ++ arcs_of (met_above (is_entry l.size (naturals (map g.I.Index.value l.a_p)) (naturals (map g.I.Index.value l.a_i)))
      l.k l.j b)) l.j l.mark l.visitor;
}

abbrev pub decreases-rows : goal.decreases-rows
decreases-rows g l = l.end - l.place
