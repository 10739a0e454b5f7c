use Rattle.std.proofs.Common.{◌-◌, refl, pos, length, sym, ap, ◌∙◌, arith}
use Rattle.std.proofs.lemmas.List.{length-set}
use Rattle.amd_model.specs.Input.Columns.{at}
use Rattle.amd_postorder.proofs.Links.{turn, turn_at, walk_up, walk_down, walk_starts, walk_ends, names_some, names_none}
use Rattle.amd_postorder.proofs.Links.{tree_size}
use Rattle.amd_postorder.proofs.post_tree.post_tree.Goals as goal

pub set_link-requires-clause-within : goal.set_link-requires-clause-within
set_link-requires-clause-within g c =
    let f = c.requires.fits in
    let some = tree_size f.tree in let in_stack = f.in_stack in
    let room = g.met.L.Link.read_room c.args.stack.now in
    omega (arith, some, in_stack, room)

pub nodes-init : goal.nodes-init
nodes-init g c =
    let read = g.L.Link.read in
    let f = c.requires.fits in
    let some = tree_size f.tree in let in_stack = f.in_stack in
    record {
      child_room = refl;
      order_room = refl;
      stack_room = ap length c.set_link.ensures ∙ length-set (read c.args.stack.now) 0 (pos c.args.root);
      walk = λ listing tree.
          rw c.set_link.ensures (walk_starts c.args.k c.args.root listing (read c.args.child.now) (read c.args.sibling.now)
          (read c.args.order.now) (read c.args.stack.now) tree (omega (arith, some, in_stack)));
    }

pub link_at-requires : goal.link_at-requires
link_at-requires g c =
    let t = turn c.requires.fits c.nodes.invariant c.nodes-test.true in
    let in_stack = t.2.in_stack in let above = t.2.above in
    let room = g.met.L.Link.read_room c.nodes.stack in
    omega (arith, in_stack, above, room)

pub unreachable-requires : goal.unreachable-requires
unreachable-requires g c =
    let t = turn c.requires.fits c.nodes.invariant c.nodes-test.true in
    names_none (at (g.L.Link.read c.nodes.stack) (c.nodes.height - 1)) (sym c.in_default.is ∙ c.link_at.ensures.is) t.0 t.2.top

pub link_at-requires-in-nodes : goal.link_at-requires-in-nodes
link_at-requires-in-nodes g c =
    let t = turn_at c.requires.fits c.nodes.invariant c.nodes-test.true c.in-Some.node (sym c.in-Some.is ∙ c.link_at.ensures.is) in
    let in_child = t.in_child in let room = g.met.L.Link.read_room c.nodes.child in
    omega (arith, in_child, room)

pub copy_link-requires-clause-within : goal.copy_link-requires-clause-within
copy_link-requires-clause-within g c =
    let t = turn_at c.requires.fits c.nodes.invariant c.nodes-test.true c.in-Some.node (sym c.in-Some.is ∙ c.link_at.ensures.is) in
    let in_child = t.in_child in let room = g.met.L.Link.read_room c.nodes.child in
    omega (arith, in_child, room)

pub copy_link-requires-clause-other_within : goal.copy_link-requires-clause-other_within
copy_link-requires-clause-other_within g c =
    let t = turn_at c.requires.fits c.nodes.invariant c.nodes-test.true c.in-Some.node (sym c.in-Some.is ∙ c.link_at.ensures.is) in
    let inside = (t.down c.in-Some-link_at.down (names_some (at (g.L.Link.read c.nodes.child) c.in-Some.node) c.in-Some-link_at.down
    (sym c.in-Some-link_at.is ∙ c.link_at-in-nodes.ensures.is))).1 in
    let room = g.met.L.Link.read_room c.args.sibling.now in
    omega (arith, inside, room)

pub set_link-requires-in-Some-link_at-clause-within : goal.set_link-requires-in-Some-link_at-clause-within
set_link-requires-in-Some-link_at-clause-within g c =
    let t = turn_at c.requires.fits c.nodes.invariant c.nodes-test.true c.in-Some.node (sym c.in-Some.is ∙ c.link_at.ensures.is) in
    let inside = (t.down c.in-Some-link_at.down (names_some (at (g.L.Link.read c.nodes.child) c.in-Some.node) c.in-Some-link_at.down
    (sym c.in-Some-link_at.is ∙ c.link_at-in-nodes.ensures.is))).2 in
    let room = g.met.L.Link.read_room c.nodes.stack in
    omega (arith, inside, room)

pub overflow_add-height : goal.overflow_add-height
overflow_add-height g c =
    let t = turn_at c.requires.fits c.nodes.invariant c.nodes-test.true c.in-Some.node (sym c.in-Some.is ∙ c.link_at.ensures.is) in
    let d = (t.down c.in-Some-link_at.down (names_some (at (g.L.Link.read c.nodes.child) c.in-Some.node) c.in-Some-link_at.down
    (sym c.in-Some-link_at.is ∙ c.link_at-in-nodes.ensures.is))).3 in
    let small = c.ranges.nn.fits in
    record { fits = omega (arith, d, small) }

pub nodes-smaller-in-Some-link_at : goal.nodes-smaller-in-Some-link_at
nodes-smaller-in-Some-link_at g c =
    let t = turn_at c.requires.fits c.nodes.invariant c.nodes-test.true c.in-Some.node (sym c.in-Some.is ∙ c.link_at.ensures.is) in
    let d = (t.down c.in-Some-link_at.down (names_some (at (g.L.Link.read c.nodes.child) c.in-Some.node) c.in-Some-link_at.down
    (sym c.in-Some-link_at.is ∙ c.link_at-in-nodes.ensures.is))).3 in
    omega (arith, d)

pub nodes-preserved-in-Some-link_at : goal.nodes-preserved-in-Some-link_at
nodes-preserved-in-Some-link_at g c =
    let read = g.L.Link.read in
    let node = c.in-Some.node in let down = c.in-Some-link_at.down in
    let child = read c.nodes.child in let stack = read c.nodes.stack in let sibling = read c.args.sibling.now in
    let i = c.nodes.invariant in
    let t = turn_at c.requires.fits i c.nodes-test.true node (sym c.in-Some.is ∙ c.link_at.ensures.is) in
    let q = names_some (at child node) down (sym c.in-Some-link_at.is ∙ c.link_at-in-nodes.ensures.is) in
    record {
      child_room = ap length c.copy_link.ensures ∙ length-set child node (at sibling down) ∙ i.child_room;
      order_room = i.order_room;
      stack_room = ap length c.set_link-in-Some-link_at.ensures ∙ length-set stack c.nodes.height (pos down) ∙ i.stack_room;
      walk = λ listing tree. rw (c.copy_link.ensures, c.set_link-in-Some-link_at.ensures)
          (walk_down c.args.k listing (read c.args.child.now) sibling (read c.args.order.now) child (read c.nodes.order) stack
          c.nodes.height c.nodes.next (i.walk listing tree) (c.nodes.height - 1) t.above tree.once node t.top down q t.in_child
          (t.down down q).2);
    }

pub prove-unreachable-requires : goal.prove-unreachable-requires
prove-unreachable-requires g c =
    let t = turn_at c.requires.fits c.nodes.invariant c.nodes-test.true c.in-Some.node (sym c.in-Some.is ∙ c.link_at.ensures.is) in
    let n = t.number in omega (arith, n)

pub set_link-requires-in-None-clause-within : goal.set_link-requires-in-None-clause-within
set_link-requires-in-None-clause-within g c =
    let t = turn_at c.requires.fits c.nodes.invariant c.nodes-test.true c.in-Some.node (sym c.in-Some.is ∙ c.link_at.ensures.is) in
    let in_order = t.in_order in let room = g.met.L.Link.read_room c.nodes.order in
    omega (arith, in_order, room)

pub nodes-smaller : goal.nodes-smaller
nodes-smaller g c =
    let t = turn_at c.requires.fits c.nodes.invariant c.nodes-test.true c.in-Some.node (sym c.in-Some.is ∙ c.link_at.ensures.is) in
    let e = t.enough in omega (arith, e)

pub nodes-preserved : goal.nodes-preserved
nodes-preserved g c =
    let read = g.L.Link.read in
    let node = c.in-Some.node in
    let child = read c.nodes.child in let order = read c.nodes.order in
    let i = c.nodes.invariant in
    let t = turn_at c.requires.fits i c.nodes-test.true node (sym c.in-Some.is ∙ c.link_at.ensures.is) in
    let q = t.up (names_none (at child node) (sym c.in-None.is ∙ c.link_at-in-nodes.ensures.is)) in
    record {
      child_room = i.child_room;
      order_room = ap length c.set_link-in-None.ensures ∙ length-set order node (pos c.nodes.next) ∙ i.order_room;
      stack_room = i.stack_room;
      walk = λ listing tree. rw c.set_link-in-None.ensures
          (walk_up c.args.k listing (read c.args.child.now) (read c.args.sibling.now) (read c.args.order.now) child order
          (read c.nodes.stack) c.nodes.height c.nodes.next (i.walk listing tree) (c.nodes.height - 1) t.above tree.once node t.top q
          t.in_order);
    }

pub returns-clause-next : goal.returns-clause-next
returns-clause-next g c = λ listing tree. (walk_ends (c.nodes.invariant.walk listing tree) (omega arith)).0

pub returns-clause-numbered : goal.returns-clause-numbered
returns-clause-numbered g c = λ listing tree. (walk_ends (c.nodes.invariant.walk listing tree) (omega arith)).1

pub returns-clause-order : goal.returns-clause-order
returns-clause-order g c = λ listing tree. (c.nodes.invariant.walk listing tree).order_stays

pub returns-clause-child : goal.returns-clause-child
returns-clause-child g c = λ listing tree. (c.nodes.invariant.walk listing tree).child_stays
