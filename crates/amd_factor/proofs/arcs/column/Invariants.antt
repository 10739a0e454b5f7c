use Rattle.std.proofs.Common.{◌≤◌, map, get_or}
use Rattle.amd_types.specs.Naturals.{naturals}
use Rattle.amd_factor.specs.Arcs.{arcs_before}
use Rattle.amd_factor.proofs.Lists.Entries.{so_far}
use Rattle.amd_factor.proofs.arcs.column.Given as goal

abbrev pub invariant-entries : goal.invariant-entries
invariant-entries g l = record {
  from : get_or (naturals (map g.I.Index.value l.a_p)) l.column 0 ≤ l.entry;
  held : g.V.ArcVisitor.holds l.fn.size (arcs_before l.places (naturals (map g.I.Index.value l.a_p)) (naturals (map g.I.Index.value l.a_i))
      l.fn.size)
      (so_far l.places (naturals (map g.I.Index.value l.a_p)) (naturals (map g.I.Index.value l.a_i)) l.column l.entry) l.visitor
      l.starts l.neighbours;
}
