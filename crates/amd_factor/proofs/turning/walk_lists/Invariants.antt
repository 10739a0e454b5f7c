use Rattle.std.proofs.Common.{[], length}
use Rattle.amd_factor.specs.Arcs.{list_arcs}
use Rattle.amd_factor.specs.Neighbours.{HasEarlier}
use Rattle.amd_factor.specs.Orders.{Order}
use Rattle.amd_factor.proofs.turning.walk_lists.Given as goal

abbrev pub invariant-places : goal.invariant-places
invariant-places g l = (o : Order) → HasEarlier o l.starts l.earlier →
    g.V.ArcVisitor.holds (length o.rows) (list_arcs l.starts l.earlier (length o.rows)) [] l.visitor l.fn.ends l.fn.neighbours →
    g.V.ArcVisitor.holds (length o.rows) (list_arcs l.starts l.earlier (length o.rows)) (list_arcs l.starts l.earlier l.j) l.visitor
    l.ends l.neighbours
