use Rattle.std.proofs.Common.{arith}
use Rattle.std.specs.Vec.{vec_capacity}
use Rattle.amd_edges.proofs.RowLists.{row_room, rows_more}
use Rattle.amd_edges.proofs.lists.RowListsVisitor.arc.Goals as goal

pub push_reserved-requires : goal.push_reserved-requires
push_reserved-requires g c =
    let r = c.requires in let v = c.index_mut.result.now in
    let room = row_room _ (λ v. v.items) vec_capacity r.0 r.1 r.2 c.args.i c.args.j r.4 c.args.self.now.rows.items r.3 v
    c.index_mut.ensures.value in
    let len = v.ok.0 in
    omega (arith, room, len)

pub returns-clause-held : goal.returns-clause-held
returns-clause-held g c = λ gr seen arcs h new.
    rows_more _ (λ v. v.items) vec_capacity gr seen arcs c.args.i c.args.j new c.args.self.now.rows.items h c.index_mut.result.now
    c.index_mut.ensures.value
    c.push_reserved.new.self c.push_reserved.ensures.items c.push_reserved.ensures.capacity
