use Rattle.std.proofs.Common.{set, arith, sym, subst}
use Rattle.amd_edges.specs.Visits.{AreCounts, with_arc}
use Rattle.amd_input.proofs.Counting.{arc_room, counts_more, read_again}
use Rattle.amd_input.proofs.aat.DegreeCounterVisitor.arc.Goals as goal

pub cell_of-requires : goal.cell_of-requires
cell_of-requires g c =
    let r = c.requires in
    let room = arc_room r.0 r.1 c.args.i c.args.j r.4 c.args.self.now.degrees.items c.number_of.result
    (read_again c.args.i c.args.self.now.degrees.items c.number_of.ensures.is c.index.ensures) r.3.0 in
    let fits = r.3.1 in omega (arith, room, fits)

pub overflow_add-number_of : goal.overflow_add-number_of
overflow_add-number_of g c =
    let r = c.requires in
    let room = arc_room r.0 r.1 c.args.i c.args.j r.4 c.args.self.now.degrees.items c.number_of.result
    (read_again c.args.i c.args.self.now.degrees.items c.number_of.ensures.is c.index.ensures) r.3.0 in
    let fits = r.3.1 in let narrow = g.met.U.Unsigned.narrow in omega (arith, room, fits, narrow)

pub returns-clause-held : goal.returns-clause-held
returns-clause-held g c = λ gr seen arcs h new.
    let numbers = c.args.self.now.degrees.items in (
      subst (λ v. AreCounts gr (with_arc seen c.args.i c.args.j) (set numbers c.args.i v)) (sym c.cell_of.ensures)
          (counts_more gr seen c.args.i c.args.j new numbers c.number_of.result (read_again c.args.i c.args.self.now.degrees.items
          c.number_of.ensures.is c.index.ensures) h.0),
      h.1,
    )
