-- The columns before `j` were read to their ends, and each other one is left from behind its diagonal entry on.
use Rattle.std.proofs.Common.{◌≡◌, ◌<◌, ◌≤◌, ℕ, List, get_or, map}
use Rattle.amd_types.specs.Naturals.{naturals, count_graph, is_entry}
use Rattle.amd_edges.specs.Visits.{arcs_of}
use Rattle.amd_edges.specs.Walk.{IsScan, lower_start, met}
use Rattle.amd_edges.proofs.Orders.{edges_after}
use Rattle.amd_edges.proofs.walk.walk_lower.Given as goal

abbrev pub invariant-columns : goal.invariant-columns
invariant-columns g l = (t : List ℕ) × record {
  kept : g.V.Visitor.room l.visitor ≡ g.V.Visitor.room l.fn.visitor;
  scan : IsScan l.fn.size (naturals (map g.I.Index.value l.a_p)) (naturals (map g.I.Index.value l.a_i)) t l.fn.size l.j;
  left : (a : ℕ) → l.j ≤ a → a < l.fn.size →
      get_or t a 0 ≡ lower_start (naturals (map g.I.Index.value l.a_p)) (naturals (map g.I.Index.value l.a_i)) a;
  held : g.V.Visitor.holds (count_graph l.fn.size (naturals (map g.I.Index.value l.a_p)) (naturals (map g.I.Index.value l.a_i)))
      (met l.fn.size (naturals (map g.I.Index.value l.a_p)) (naturals (map g.I.Index.value l.a_i)) t l.fn.size l.j)
      (arcs_of (edges_after (is_entry l.fn.size (naturals (map g.I.Index.value l.a_p)) (naturals (map g.I.Index.value l.a_i)))
      l.fn.size l.j))
      l.visitor;
}
