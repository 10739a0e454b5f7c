use Rattle.std.proofs.Common.{◌∷◌, [], arith, refl, ap, ◌∙◌, length, get_or, pos}
use Rattle.std.proofs.lemmas.List.{length-set}
use Rattle.std.specs.Vec.{vec_capacity}
use Rattle.amd_workspace.proofs.Layings.{appended, lay_in, lays_more, moved_on}
use Rattle.amd_workspace.proofs.laying.WordsVisitor.arc.Goals as goal

pub append-requires-clause-inside : goal.append-requires-clause-inside
append-requires-clause-inside g c =
    let r = c.requires in let l = c.args.self.now in
    let room = lay_in r.0 r.1 r.2 c.args.i c.args.j r.4 _ _ l.next.items l.iw.items r.3 in
    let size = r.3.lists.size in let row = r.4.i_row in
    let next_is = c.deref_mut.ensures.value in let iw_is = c.deref_mut-2.ensures.value in
    rw (next_is, iw_is) (omega (arith, size, row), room)

pub append-requires-clause-fits : goal.append-requires-clause-fits
append-requires-clause-fits g c =
    let r = c.requires in let row = r.4.j_row in let rows = r.3.rows in let places = r.3.places in
    let iw_is = c.deref_mut-2.ensures.value in
    rw iw_is (omega (arith, row, rows), places)

pub returns-clause-held : goal.returns-clause-held
returns-clause-held g c = λ gr seen arcs h new.
    let l = c.args.self.now in let place = get_or l.next.items c.args.i 0 in
    let next_is = moved_on l.next.items c.deref_mut.result.now c.append.new.next c.args.i l.next.len c.deref_mut.ensures.value
    c.append.ensures.ends (let b = l.next.ok.0 in omega (arith, b)) in
    let iw_is = appended l.next.items c.deref_mut.result.now l.iw.items c.deref_mut-2.result.now c.append.new.iw c.args.i c.args.j l.iw.len
    c.deref_mut.ensures.value c.deref_mut-2.ensures.value c.append.ensures.words (let b = l.iw.ok.0 in omega (arith, b)) in
    rw (next_is, iw_is) (lays_more gr seen arcs c.args.i c.args.j new _ _ l.next.items l.iw.items h place refl)

pub returns-clause-kept : goal.returns-clause-kept
returns-clause-kept g c =
    let l = c.args.self.now in let place = get_or l.next.items c.args.i 0 in
    let iw_is = appended l.next.items c.deref_mut.result.now l.iw.items c.deref_mut-2.result.now c.append.new.iw c.args.i c.args.j l.iw.len
    c.deref_mut.ensures.value c.deref_mut-2.ensures.value c.append.ensures.words (let b = l.iw.ok.0 in omega (arith, b)) in
    ap (λ k. k ∷ vec_capacity l.next ∷ vec_capacity l.iw ∷ []) (ap length iw_is ∙ length-set l.iw.items place (pos c.args.j))
