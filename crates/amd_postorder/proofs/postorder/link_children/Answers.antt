use Rattle.std.proofs.Common.{◌≡◌, ◌-◌, Some, suc, subst, sym, ◌∙◌, arith}
use Rattle.amd_postorder.specs.Trees.{tree_of}
use Rattle.amd_postorder.proofs.ChildLinks.{no_child, its_child, other_child, parent_small}
use Rattle.amd_postorder.proofs.ChildChains.{AreLinkedFrom, big, chains_start, chains_end, chains_skip, chains_heaviest, chains_take}
use Rattle.amd_postorder.proofs.ChildChains.{same_option, other_option, big_is}
use Rattle.amd_postorder.proofs.postorder.link_children.Goals as goal

pub elements-init : goal.elements-init
elements-init g c = λ f_size forest heaviest child.
    let read = g.N.Number.read in let rows = g.V.Number.read in let links = g.L.Link.read in
    chains_start (tree_of c.args.nn (read c.args.parent.now) (rows c.args.nv.now) f_size) (links c.args.child.now)
    (links c.args.sibling.now) child c.requires.sibling

pub parent_of-requires-clause-in_parent : goal.parent_of-requires-clause-in_parent
parent_of-requires-clause-in_parent g c =
    let room = c.requires.heaviest.1.parent_room in let same = g.met.N.Number.read_room c.args.parent.now in
    let most = c.elements.auto.j in let some = c.elements-test.true in
    omega (arith, room, same, most, some)

pub parent_of-requires-clause-in_nv : goal.parent_of-requires-clause-in_nv
parent_of-requires-clause-in_nv g c =
    let room = c.requires.heaviest.1.nv_room in let same = g.met.V.Number.read_room c.args.nv.now in
    let most = c.elements.auto.j in let some = c.elements-test.true in
    omega (arith, room, same, most, some)

pub elements-preserved-in_default : goal.elements-preserved-in_default
elements-preserved-in_default g c = λ f_size forest heaviest child_before.
    let read = g.N.Number.read in let rows = g.V.Number.read in let links = g.L.Link.read in
    let n = c.args.nn in let parent = read c.args.parent.now in let nv = rows c.args.nv.now in
    let child = links c.elements.child in let sibling = links c.elements.sibling in
    let up : c.elements.j ≡ suc (c.elements.j - 1) = (let some = c.elements-test.true in omega (arith, some)) in
    chains_skip (tree_of n parent nv f_size) (c.elements.j - 1) child sibling
    (no_child n parent nv f_size forest (c.elements.j - 1) (sym c.in_default.is ∙ c.parent_of.ensures))
    (subst (λ v. AreLinkedFrom (tree_of n parent nv f_size) v child sibling) up
    (c.elements.invariant f_size forest heaviest child_before))

pub link_at-requires : goal.link_at-requires
link_at-requires g c =
    let read = g.N.Number.read in let rows = g.V.Number.read in
    let n = c.args.nn in let parent = read c.args.parent.now in let nv = rows c.args.nv.now in
    let f_size = c.requires.heaviest.0 in let forest = c.requires.heaviest.1 in
    let j = c.elements.j - 1 in let p = c.in-Some.p in
    let small = parent_small n parent nv f_size forest j p (sym c.in-Some.is ∙ c.parent_of.ensures) in
    let room = c.requires.heaviest.2.room in let same = g.met.L.Link.read_room c.args.heaviest.now in
    omega (arith, small, room, same)

pub elements-preserved-then-eq : goal.elements-preserved-then-eq
elements-preserved-then-eq g c = λ f_size forest heaviest child_before.
    let read = g.N.Number.read in let rows = g.V.Number.read in let links = g.L.Link.read in
    let n = c.args.nn in let parent = read c.args.parent.now in let nv = rows c.args.nv.now in
    let child = links c.elements.child in let sibling = links c.elements.sibling in
    let j = c.elements.j - 1 in let p = c.in-Some.p in
    let q = sym c.in-Some.is ∙ c.parent_of.ensures in
    let small = parent_small n parent nv f_size forest j p q in
    let is : big (tree_of n parent nv f_size) p ≡ Some j = sym
    (c.link_at.ensures.is ∙ big_is (tree_of n parent nv f_size) (links c.args.heaviest.now) heaviest p small) ∙
    same_option c.link_at.result j (sym c.eq.ensures ∙ c.if-eq.true) in
    let up : c.elements.j ≡ suc j = (let some = c.elements-test.true in omega (arith, some)) in
    chains_heaviest (tree_of n parent nv f_size) j p (its_child n parent nv f_size forest j p q)
    (other_child n parent nv f_size forest j p q) child sibling is
    (subst (λ v. AreLinkedFrom (tree_of n parent nv f_size) v child sibling) up
    (c.elements.invariant f_size forest heaviest child_before))

pub copy_link-requires-clause-within : goal.copy_link-requires-clause-within
copy_link-requires-clause-within g c =
    let r = c.requires.heaviest in
    let room = (c.elements.invariant r.0 r.1 r.2 r.3).sibling_room in let same = g.met.L.Link.read_room c.elements.sibling in
    let most = c.elements.auto.j in let some = c.elements-test.true in
    omega (arith, room, same, most, some)

pub copy_link-requires-clause-other_within : goal.copy_link-requires-clause-other_within
copy_link-requires-clause-other_within g c =
    let read = g.N.Number.read in let rows = g.V.Number.read in
    let n = c.args.nn in let parent = read c.args.parent.now in let nv = rows c.args.nv.now in
    let r = c.requires.heaviest in let f_size = r.0 in let forest = r.1 in
    let j = c.elements.j - 1 in let p = c.in-Some.p in
    let small = parent_small n parent nv f_size forest j p (sym c.in-Some.is ∙ c.parent_of.ensures) in
    let room = (c.elements.invariant r.0 r.1 r.2 r.3).child_room in let same = g.met.L.Link.read_room c.elements.child in
    omega (arith, small, room, same)

pub set_link-requires-clause-within : goal.set_link-requires-clause-within
set_link-requires-clause-within g c =
    let read = g.N.Number.read in let rows = g.V.Number.read in
    let n = c.args.nn in let parent = read c.args.parent.now in let nv = rows c.args.nv.now in
    let r = c.requires.heaviest in let f_size = r.0 in let forest = r.1 in
    let j = c.elements.j - 1 in let p = c.in-Some.p in
    let small = parent_small n parent nv f_size forest j p (sym c.in-Some.is ∙ c.parent_of.ensures) in
    let room = (c.elements.invariant r.0 r.1 r.2 r.3).child_room in let same = g.met.L.Link.read_room c.elements.child in
    omega (arith, small, room, same)

pub set_link-requires-clause-fits : goal.set_link-requires-clause-fits
set_link-requires-clause-fits g c =
    let reach = c.requires.numbers in let most = c.elements.auto.j in let some = c.elements-test.true in
    omega (arith, reach, most, some)

pub elements-preserved : goal.elements-preserved
elements-preserved g c = λ f_size forest heaviest child_before.
    let read = g.N.Number.read in let rows = g.V.Number.read in let links = g.L.Link.read in
    let n = c.args.nn in let parent = read c.args.parent.now in let nv = rows c.args.nv.now in
    let child = links c.elements.child in let sibling = links c.elements.sibling in
    let j = c.elements.j - 1 in let p = c.in-Some.p in
    let q = sym c.in-Some.is ∙ c.parent_of.ensures in
    let up : c.elements.j ≡ suc j = (let some = c.elements-test.true in omega (arith, some)) in
    let most = c.elements.auto.j in let some = c.elements-test.true in
    let small = parent_small n parent nv f_size forest j p q in
    let not_big : big (tree_of n parent nv f_size) p ≡ Some j →
    ⊥ = λ b. other_option c.link_at.result j (sym c.eq.ensures ∙ c.if-eq.false)
    (c.link_at.ensures.is ∙ big_is (tree_of n parent nv f_size) (links c.args.heaviest.now) heaviest p small ∙ b) in
    rw (c.set_link.ensures, c.copy_link.ensures) (chains_take (tree_of n parent nv f_size) j p (its_child n parent nv f_size forest j p q)
    (other_child n parent nv f_size forest j p q) child sibling not_big (omega (arith, most, some)) small
    (subst (λ v. AreLinkedFrom (tree_of n parent nv f_size) v child sibling) up
    (c.elements.invariant f_size forest heaviest child_before)))

pub returns : goal.returns
returns g c = λ f_size forest heaviest child_before.
    let read = g.N.Number.read in let rows = g.V.Number.read in let links = g.L.Link.read in
    let t = tree_of c.args.nn (read c.args.parent.now) (rows c.args.nv.now) f_size in
    let child = links c.elements.child in let sibling = links c.elements.sibling in
    let none_left : c.elements.j ≡ 0 = (let none = c.elements-test.false in omega (arith, none)) in
    chains_end t child sibling (subst (λ v. AreLinkedFrom t v child sibling) none_left
    (c.elements.invariant f_size forest heaviest child_before))
