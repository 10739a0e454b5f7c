use Rattle.std.proofs.Common.{◌≡◌, ◌≤◌, map}
use Rattle.std.specs.Vec.{vec_capacity}
use Rattle.amd_model.specs.Below.{count_below}
use Rattle.amd_types.specs.Naturals.{naturals, count_graph, is_entry}
use Rattle.amd_edges.specs.Visits.{arcs_of}
use Rattle.amd_edges.specs.Walk.{IsScan, edges_before, met}
use Rattle.amd_edges.proofs.walk.walk.Given as goal

abbrev pub invariant-columns : goal.invariant-columns
invariant-columns g l = record {
  count : l.diagonals ≡ count_below l.k (λ j. is_entry l.fn.size (naturals (map g.I.Index.value l.a_p)) (naturals (map g.I.Index.value
      l.a_i))
      j j);
  small : l.diagonals ≤ l.k;
  kept : g.V.Visitor.room l.visitor ≡ g.V.Visitor.room l.fn.visitor;
  room : vec_capacity l.next ≡ vec_capacity l.fn.next;
  scan : IsScan l.fn.size (naturals (map g.I.Index.value l.a_p)) (naturals (map g.I.Index.value l.a_i)) l.next.items l.k 0;
  held : g.V.Visitor.holds (count_graph l.fn.size (naturals (map g.I.Index.value l.a_p)) (naturals (map g.I.Index.value l.a_i)))
      (met l.fn.size (naturals (map g.I.Index.value l.a_p)) (naturals (map g.I.Index.value l.a_i)) l.next.items l.k 0)
      (arcs_of (edges_before (is_entry l.fn.size (naturals (map g.I.Index.value l.a_p)) (naturals (map g.I.Index.value l.a_i))) l.k))
      l.visitor;
}
