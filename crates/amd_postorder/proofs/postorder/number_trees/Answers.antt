use Rattle.std.proofs.Common.{◌≡◌, ◌&&◌, true, false, sym, ap, ◌∙◌, subst, arith, add-one, is_none}
use Rattle.amd_model.specs.Input.Columns.{at}
use Rattle.amd_types.specs.Links.{named}
use Rattle.amd_postorder.specs.Trees.{is_tree_element, tree_of}
use Rattle.amd_postorder.proofs.TreeNumbers.{AreNumbered, ranked, numbers_start, numbers_skip, numbers_take, numbers_end, fits}
use Rattle.amd_postorder.proofs.postorder.number_trees.Goals as goal

pub roots-init : goal.roots-init
roots-init g c = λ f_size forest linked.
    let read = g.N.Number.read in let rows = g.V.Number.read in let links = g.L.Link.read in
    numbers_start (tree_of c.args.nn (read c.args.parent.now) (rows c.args.nv.now) f_size) (links c.args.child.now)
    (links c.args.order.now) c.requires.order

pub is_root-requires-clause-in_parent : goal.is_root-requires-clause-in_parent
is_root-requires-clause-in_parent g c =
    let room = c.requires.linked.1.parent_room in let same = g.met.N.Number.read_room c.args.parent.now in
    let small = c.roots-test.true in
    omega (arith, room, same, small)

pub is_root-requires-clause-in_nv : goal.is_root-requires-clause-in_nv
is_root-requires-clause-in_nv g c =
    let room = c.requires.linked.1.nv_room in let same = g.met.V.Number.read_room c.args.nv.now in
    let small = c.roots-test.true in
    omega (arith, room, same, small)

pub roots-preserved-then-not-is_root : goal.roots-preserved-then-not-is_root
roots-preserved-then-not-is_root g c = λ f_size forest linked.
    let links = g.L.Link.read in
    let nv = g.V.Number.read c.args.nv.now in let parent = g.N.Number.read c.args.parent.now in let j = c.roots.j in
    let off : (is_tree_element c.args.nn nv j && is_none (named (at parent j))) ≡ false =
    ap (λ n. is_tree_element n nv j && is_none (named (at parent j))) (sym forest.nv_room)
    ∙ sym c.is_root.ensures ∙ c.if-not-is_root.true in
    rw add-one (numbers_skip (tree_of c.args.nn parent nv f_size) j (links c.args.child.now) (links c.roots.child) (links c.roots.order)
    c.roots.next (c.roots.invariant f_size forest linked) off)

pub post_tree-next-requires-clause-fits : goal.post_tree-next-requires-clause-fits
post_tree-next-requires-clause-fits g c =
    let links = g.L.Link.read in let same = g.met.L.Link.read_room in
    let f_size = c.requires.linked.0 in let forest = c.requires.linked.1 in let linked = c.requires.linked.2 in
    let nv = g.V.Number.read c.args.nv.now in let parent = g.N.Number.read c.args.parent.now in let j = c.roots.j in
    let root : (is_tree_element c.args.nn nv j && is_none (named (at parent j))) ≡ true =
    ap (λ n. is_tree_element n nv j && is_none (named (at parent j))) (sym forest.nv_room)
    ∙ sym c.is_root.ensures ∙ c.if-not-is_root.false in
    fits (tree_of c.args.nn parent nv f_size) (ranked c.args.nn parent nv f_size forest) (links c.args.child.now)
    (links c.args.sibling.now) linked j root (links c.roots.child) (links c.roots.order) c.roots.next
    (c.roots.invariant f_size forest linked) (links c.roots.stack)
    (same c.roots.child ∙ c.roots.auto.child ∙ sym (same c.args.child.now) ∙ linked.child_room)
    (same c.roots.order ∙ c.roots.auto.order ∙ sym (same c.args.order.now) ∙ c.requires.order.room)
    (same c.roots.stack ∙ c.roots.auto.stack ∙ c.requires.stack)

pub roots-preserved : goal.roots-preserved
roots-preserved g c = λ f_size forest linked.
    let links = g.L.Link.read in
    let nv = g.V.Number.read c.args.nv.now in let parent = g.N.Number.read c.args.parent.now in let j = c.roots.j in
    let root : (is_tree_element c.args.nn nv j && is_none (named (at parent j))) ≡ true =
    ap (λ n. is_tree_element n nv j && is_none (named (at parent j))) (sym forest.nv_room)
    ∙ sym c.is_root.ensures ∙ c.if-not-is_root.false in
    let e = c.post_tree-next.ensures in
    rw add-one (numbers_take (tree_of c.args.nn parent nv f_size) (ranked c.args.nn parent nv f_size forest) (links c.args.child.now)
    (links c.args.sibling.now) linked j root (links c.roots.child) (links c.roots.order) c.roots.next
    (c.roots.invariant f_size forest linked) (links c.post_tree-next.new.child) (links c.post_tree-next.new.order)
    c.post_tree-next.result e.next e.numbered e.order e.child)

pub returns : goal.returns
returns g c = λ f_size forest linked.
    let links = g.L.Link.read in let same = g.met.L.Link.read_room in
    let nv = g.V.Number.read c.args.nv.now in let parent = g.N.Number.read c.args.parent.now in
    let child_before = links c.args.child.now in let child = links c.roots.child in let order = links c.roots.order in
    let t = tree_of c.args.nn parent nv f_size in
    let most = c.roots.auto.j-end in let least = c.roots-test.false in
    let all : c.roots.j ≡ c.args.nn = omega (arith, most, least) in
    numbers_end t (ranked c.args.nn parent nv f_size forest) child_before child order c.roots.next
    (subst (λ j. AreNumbered t j child_before child order c.roots.next) all (c.roots.invariant f_size forest linked))
    (same c.roots.order ∙ c.roots.auto.order ∙ sym (same c.args.order.now) ∙ c.requires.order.room)
