use Rattle.std.proofs.Common.{map}
use Rattle.amd_types.specs.Naturals.{naturals}
use Rattle.amd_factor.specs.Arcs.{arcs_before, arcs_of}
use Rattle.amd_factor.proofs.arcs.walk.Given as goal

abbrev pub invariant-columns : goal.invariant-columns
invariant-columns g l =
    let m = l.matrix in
    g.V.ArcVisitor.holds m.size (arcs_of g.I.Index.value m)
    (arcs_before m.places.now (naturals (map g.I.Index.value m.a_p.now)) (naturals (map g.I.Index.value m.a_i.now)) l.j) l.visitor l.starts
    l.neighbours
