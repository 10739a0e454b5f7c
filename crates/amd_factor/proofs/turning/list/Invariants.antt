use Rattle.std.proofs.Common.{◌++◌, ℕ, List}
use Rattle.amd_factor.specs.Arcs.{HandsOn, arcs_to}
use Rattle.amd_factor.proofs.turning.list.Given as goal

abbrev pub invariant-earlier : goal.invariant-earlier
invariant-earlier g l = (n : ℕ) (all arcs : List (ℕ × ℕ)) → HandsOn n all arcs l.j l.earlier →
    g.V.ArcVisitor.holds n all arcs l.visitor l.fn.starts l.fn.neighbours →
    g.V.ArcVisitor.holds n all (arcs_to l.j l.earlier l.i-index ++ arcs) l.visitor l.starts l.neighbours
