use Rattle.std.proofs.Common.{◌+◌, set, arith, sym, subst}
use Rattle.amd_edges.specs.Visits.{AreCounts, with_edge}
use Rattle.amd_input.proofs.Counting.{mark_room, other_room, read_again, run_more}
use Rattle.amd_input.proofs.aat.DegreeCounterVisitor.edge.Goals as goal

pub cell_of-requires : goal.cell_of-requires
cell_of-requires g c =
    let r = c.requires in
    let room = other_room r.0 r.1 c.args.i c.args.j c.args.mark r.4 c.args.self.now.degrees.items r.3.0 c.number_of.result
    (read_again c.args.i c.args.self.now.degrees.items c.number_of.ensures.is c.index.ensures) in
    let fits = r.3.1 in omega (arith, room, fits)

pub overflow_add-number_of : goal.overflow_add-number_of
overflow_add-number_of g c =
    let r = c.requires in
    let room = other_room r.0 r.1 c.args.i c.args.j c.args.mark r.4 c.args.self.now.degrees.items r.3.0 c.number_of.result
    (read_again c.args.i c.args.self.now.degrees.items c.number_of.ensures.is c.index.ensures) in
    let fits = r.3.1 in let narrow = g.met.U.Unsigned.narrow in omega (arith, room, fits, narrow)

pub overflow_add-result : goal.overflow_add-result
overflow_add-result g c =
    let r = c.requires in
    let room = mark_room r.0 r.1 c.args.i c.args.j c.args.mark r.4 c.args.self.now.degrees.items r.3.0 c.number_of.result
    (read_again c.args.i c.args.self.now.degrees.items c.number_of.ensures.is c.index.ensures) in
    let fits = r.3.1 in let narrow = g.met.U.Unsigned.narrow in omega (arith, room, fits, narrow)

pub returns-clause-held : goal.returns-clause-held
returns-clause-held g c = λ gr seen arcs h new.
    let numbers = c.args.self.now.degrees.items in (
      subst (λ v. AreCounts gr (with_edge seen c.args.i c.args.j) (set (set numbers c.args.i v) c.args.j (c.args.mark + 1)))
          (sym c.cell_of.ensures) (run_more gr seen c.args.i c.args.j c.args.mark new numbers h.0 c.number_of.result
          (read_again c.args.i c.args.self.now.degrees.items c.number_of.ensures.is c.index.ensures)),
      h.1,
    )
