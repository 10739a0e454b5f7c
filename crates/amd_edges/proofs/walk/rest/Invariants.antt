-- The lower entries of the columns before `j` were read.
use Rattle.std.proofs.Common.{◌≡◌, map}
use Rattle.std.specs.Vec.{vec_capacity}
use Rattle.amd_types.specs.Naturals.{naturals, count_graph, is_entry}
use Rattle.amd_edges.specs.Visits.{arcs_of}
use Rattle.amd_edges.specs.Walk.{IsScan, met}
use Rattle.amd_edges.proofs.Orders.{edges_after}
use Rattle.amd_edges.proofs.walk.rest.Given as goal

abbrev pub invariant-columns : goal.invariant-columns
invariant-columns g l = record {
  room : vec_capacity l.next ≡ vec_capacity l.fn.next;
  kept : g.V.Visitor.room l.visitor ≡ g.V.Visitor.room l.fn.visitor;
  scan : IsScan l.fn.size (naturals (map g.I.Index.value l.a_p)) (naturals (map g.I.Index.value l.a_i)) l.next.items l.fn.size l.j;
  held : g.V.Visitor.holds (count_graph l.fn.size (naturals (map g.I.Index.value l.a_p)) (naturals (map g.I.Index.value l.a_i)))
      (met l.fn.size (naturals (map g.I.Index.value l.a_p)) (naturals (map g.I.Index.value l.a_i)) l.next.items l.fn.size l.j)
      (arcs_of (edges_after (is_entry l.fn.size (naturals (map g.I.Index.value l.a_p)) (naturals (map g.I.Index.value l.a_i)))
      l.fn.size l.j))
      l.visitor;
}
