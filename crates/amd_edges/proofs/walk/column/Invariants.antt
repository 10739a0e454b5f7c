use Rattle.std.proofs.Common.{◌≡◌, ◌-◌, ℕ, map, get_or}
use Rattle.std.specs.Vec.{vec_capacity}
use Rattle.amd_types.specs.Naturals.{naturals, count_graph, is_entry}
use Rattle.amd_edges.specs.Visits.{arcs_of}
use Rattle.amd_edges.specs.Walk.{IsScan, met}
use Rattle.amd_edges.proofs.Orders.{edges_until}
use Rattle.amd_edges.proofs.Reading.{IsReading}
use Rattle.amd_edges.proofs.walk.column.Given as goal

abbrev pub invariant-upper : goal.invariant-upper
invariant-upper g l = (m : ℕ) × record {
  place : IsReading (naturals (map g.I.Index.value l.a_i)) (get_or (naturals (map g.I.Index.value l.a_p)) l.k 0) l.end l.k m l.place;
  room : vec_capacity l.next ≡ vec_capacity l.fn.next;
  kept : g.V.Visitor.room l.visitor ≡ g.V.Visitor.room l.fn.visitor;
  scan : IsScan l.fn.size (naturals (map g.I.Index.value l.a_p)) (naturals (map g.I.Index.value l.a_i)) l.next.items l.k m;
  held : g.V.Visitor.holds (count_graph l.fn.size (naturals (map g.I.Index.value l.a_p)) (naturals (map g.I.Index.value l.a_i)))
      (met l.fn.size (naturals (map g.I.Index.value l.a_p)) (naturals (map g.I.Index.value l.a_i)) l.next.items l.k m)
      (arcs_of (edges_until (is_entry l.fn.size (naturals (map g.I.Index.value l.a_p)) (naturals (map g.I.Index.value l.a_i))) l.k m))
      l.visitor;
}

abbrev pub decreases-upper : goal.decreases-upper
decreases-upper g l = l.end - l.place
