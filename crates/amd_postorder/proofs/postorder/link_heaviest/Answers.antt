use Rattle.std.proofs.Common.{◌≡◌, ◌<◌, ◌∙◌, pos, length, sym, ap, add-one, arith}
use Rattle.std.specs.Prelude.{◌≤ℤ◌, unsigned_abs}
use Rattle.amd_model.specs.Input.Columns.{at}
use Rattle.amd_types.specs.Links.{named}
use Rattle.amd_postorder.specs.Trees.{heavier}
use Rattle.amd_postorder.proofs.Links.{names_some}
use Rattle.amd_postorder.proofs.ChildLinks.{heaviest_start, heaviest_skip, heaviest_take, heaviest_sized, if_some, its_child, child_gives}
use Rattle.amd_postorder.proofs.ChildLinks.{parent_small}
use Rattle.amd_postorder.proofs.postorder.link_heaviest.Goals as goal

pub elements-init : goal.elements-init
elements-init g c =
    let read = g.N.Number.read in let rows = g.V.Number.read in let links = g.L.Link.read in
    let n = c.args.nn in let parent = read c.args.parent.now in let nv = rows c.args.nv.now in let f_size = read c.args.f_size.now in (
      heaviest_start n parent nv f_size c.requires.forest (links c.args.heaviest.now) c.requires.unlinked,
      heaviest_start n parent nv f_size c.requires.forest (links c.args.child.now) c.requires.child,
    )

pub parent_of-requires-clause-in_parent : goal.parent_of-requires-clause-in_parent
parent_of-requires-clause-in_parent g c =
    let room = c.requires.forest.parent_room in let same = g.met.N.Number.read_room c.args.parent.now in
    let small = c.elements-test.true in
    omega (arith, room, same, small)

pub parent_of-requires-clause-in_nv : goal.parent_of-requires-clause-in_nv
parent_of-requires-clause-in_nv g c =
    let room = c.requires.forest.nv_room in let same = g.met.V.Number.read_room c.args.nv.now in
    let small = c.elements-test.true in
    omega (arith, room, same, small)

pub elements-preserved-in_default : goal.elements-preserved-in_default
elements-preserved-in_default g c =
    let read = g.N.Number.read in let rows = g.V.Number.read in let links = g.L.Link.read in
    let n = c.args.nn in let parent = read c.args.parent.now in let nv = rows c.args.nv.now in let f_size = read c.args.f_size.now in
    let none = sym c.in_default.is ∙ c.parent_of.ensures in (
      rw add-one (heaviest_skip n parent nv f_size c.requires.forest c.elements.j (links c.elements.heaviest) c.elements.invariant.0 none),
      rw add-one (heaviest_skip n parent nv f_size c.requires.forest c.elements.j (links c.elements.child) c.elements.invariant.1 none),
    )

pub link_at-requires : goal.link_at-requires
link_at-requires g c =
    let read = g.N.Number.read in let rows = g.V.Number.read in
    let n = c.args.nn in let parent = read c.args.parent.now in let nv = rows c.args.nv.now in let f_size = read c.args.f_size.now in
    let f = c.requires.forest in
    let j = c.elements.j in let p = c.in-Some.p in
    let small = parent_small n parent nv f_size f j p (sym c.in-Some.is ∙ c.parent_of.ensures) in
    let room = c.elements.invariant.0.room in let same = g.met.L.Link.read_room c.elements.heaviest in
    omega (arith, small, room, same)

pub heavier-element-requires-clause-element : goal.heavier-element-requires-clause-element
heavier-element-requires-clause-element g c =
    let read = g.N.Number.read in let rows = g.V.Number.read in
    let n = c.args.nn in let parent = read c.args.parent.now in let nv = rows c.args.nv.now in let f_size = read c.args.f_size.now in
    let links = g.L.Link.read c.elements.heaviest in
    let f = c.requires.forest in
    let j = c.elements.j in let p = c.in-Some.p in
    let small = parent_small n parent nv f_size f j p (sym c.in-Some.is ∙ c.parent_of.ensures) in
    let same = g.met.N.Number.read_room c.args.f_size.now in
    if_some (λ e. (e < length c.args.f_size.now) × (pos 0 ≤ℤ at f_size e)) c.link_at.result (λ h q.
    let sized = heaviest_sized n parent nv f_size f j links c.elements.invariant.0 p h small
    (names_some (at links p) h (q ∙ c.link_at.ensures.is)) in
    let inside = sized.0 in
    (omega (arith, inside, same), sized.1))

pub heavier-element-requires-clause-within : goal.heavier-element-requires-clause-within
heavier-element-requires-clause-within g c =
    let room = c.requires.forest.f_size_room in let same = g.met.N.Number.read_room c.args.f_size.now in
    let small = c.elements-test.true in
    omega (arith, room, same, small)

pub heavier-element-requires-clause-size : goal.heavier-element-requires-clause-size
heavier-element-requires-clause-size g c =
    let read = g.N.Number.read in let rows = g.V.Number.read in
    let n = c.args.nn in let parent = read c.args.parent.now in let nv = rows c.args.nv.now in let f_size = read c.args.f_size.now in
    let f = c.requires.forest in
    let j = c.elements.j in let p = c.in-Some.p in
    f.sizes j (child_gives n parent nv f_size f p j (its_child n parent nv f_size f j p (sym c.in-Some.is ∙ c.parent_of.ensures))).0

pub set_link-requires-clause-within : goal.set_link-requires-clause-within
set_link-requires-clause-within g c =
    let read = g.N.Number.read in let rows = g.V.Number.read in
    let n = c.args.nn in let parent = read c.args.parent.now in let nv = rows c.args.nv.now in let f_size = read c.args.f_size.now in
    let f = c.requires.forest in
    let j = c.elements.j in let p = c.in-Some.p in
    let small = parent_small n parent nv f_size f j p (sym c.in-Some.is ∙ c.parent_of.ensures) in
    let room = c.elements.invariant.0.room in let same = g.met.L.Link.read_room c.elements.heaviest in
    omega (arith, small, room, same)

pub set_link-requires-clause-fits : goal.set_link-requires-clause-fits
set_link-requires-clause-fits g c =
    let inside = c.heavier-element.ensures.inside in let reach = c.requires.numbers in
    let room = c.requires.forest.f_size_room in let same = g.met.N.Number.read_room c.args.f_size.now in
    omega (arith, inside, reach, room, same)

pub set_link-requires-in-elements-clause-within : goal.set_link-requires-in-elements-clause-within
set_link-requires-in-elements-clause-within g c =
    let read = g.N.Number.read in let rows = g.V.Number.read in
    let n = c.args.nn in let parent = read c.args.parent.now in let nv = rows c.args.nv.now in let f_size = read c.args.f_size.now in
    let f = c.requires.forest in
    let j = c.elements.j in let p = c.in-Some.p in
    let small = parent_small n parent nv f_size f j p (sym c.in-Some.is ∙ c.parent_of.ensures) in
    let room = c.elements.invariant.1.room in let same = g.met.L.Link.read_room c.elements.child in
    omega (arith, small, room, same)

pub set_link-requires-in-elements-clause-fits : goal.set_link-requires-in-elements-clause-fits
set_link-requires-in-elements-clause-fits g c =
    let inside = c.heavier-element.ensures.inside in let reach = c.requires.numbers in
    let room = c.requires.forest.f_size_room in let same = g.met.N.Number.read_room c.args.f_size.now in
    omega (arith, inside, reach, room, same)

pub elements-preserved : goal.elements-preserved
elements-preserved g c =
    let read = g.N.Number.read in let rows = g.V.Number.read in
    let n = c.args.nn in let parent = read c.args.parent.now in let nv = rows c.args.nv.now in let f_size = read c.args.f_size.now in
    let heaviest = g.L.Link.read c.elements.heaviest in let child = g.L.Link.read c.elements.child in
    let f = c.requires.forest in let i = c.elements.invariant in
    let j = c.elements.j in let p = c.in-Some.p in
    let q = sym c.in-Some.is ∙ c.parent_of.ensures in
    let small = parent_small n parent nv f_size f j p q in
    let new : c.heavier-element.result ≡ heavier (λ e. unsigned_abs (at f_size e)) (named (at heaviest p)) j =
    c.heavier-element.ensures.is ∙ ap (λ o. heavier (λ e. unsigned_abs (at f_size e)) o j) c.link_at.ensures.is in
    let alike : at heaviest p ≡ at child p = i.0.each p small ∙ sym (i.1.each p small) in
    let new_child : c.heavier-element.result ≡ heavier (λ e. unsigned_abs (at f_size e)) (named (at child p)) j =
    new ∙ ap (λ z. heavier (λ e. unsigned_abs (at f_size e)) (named z) j) alike in (
      rw (add-one, c.set_link.ensures, new) (heaviest_take n parent nv f_size f j p heaviest i.0 q small),
      rw (add-one, c.set_link-in-elements.ensures, new_child) (heaviest_take n parent nv f_size f j p child i.1 q small),
    )
