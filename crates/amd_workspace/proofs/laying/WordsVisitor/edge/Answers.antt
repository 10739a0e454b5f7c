use Rattle.std.proofs.Common.{◌∷◌, [], ◌++◌, arith, refl, ap, ◌∙◌, length, get_or, set, take, drop, pos}
use Rattle.std.proofs.lemmas.List.{length-set}
use Rattle.std.specs.Vec.{vec_capacity}
use Rattle.amd_workspace.proofs.Layings.{appended, other_in, own_in, run_long, run_more, written, moved_on}
use Rattle.amd_workspace.proofs.laying.WordsVisitor.edge.Goals as goal

pub append-requires-clause-inside : goal.append-requires-clause-inside
append-requires-clause-inside g c =
    let r = c.requires in let l = c.args.self.now in
    let room = other_in r.0 r.1 r.2 c.args.i c.args.j c.args.mark r.4 _ _ l.next.items l.iw.items r.3.0 in
    let size = run_long r.0 r.1 r.2 c.args.i c.args.j c.args.mark r.4 _ _ l.next.items l.iw.items r.3.0 in
    let row = r.4.there.i_row in
    let next_is = c.deref_mut.ensures.value in let iw_is = c.deref_mut-2.ensures.value in
    rw (next_is, iw_is) (omega (arith, size, row), room)

pub append-requires-clause-fits : goal.append-requires-clause-fits
append-requires-clause-fits g c =
    let r = c.requires in let row = r.4.there.j_row in let rows = r.3.0.rows in let places = r.3.0.places in
    let iw_is = c.deref_mut-2.ensures.value in
    rw iw_is (omega (arith, row, rows), places)

pub put_row-requires-clause-inside : goal.put_row-requires-clause-inside
put_row-requires-clause-inside g c =
    let r = c.requires in let l = c.args.self.now in let place = get_or l.next.items c.args.i 0 in
    let own = own_in r.0 r.1 r.2 c.args.i c.args.j c.args.mark r.4 _ _ l.next.items l.iw.items r.3.0 place refl in
    let long = length-set l.iw.items place (pos c.args.j) in
    let first = appended l.next.items c.deref_mut.result.now l.iw.items c.deref_mut-2.result.now c.append.new.iw c.args.i c.args.j l.iw.len
    c.deref_mut.ensures.value c.deref_mut-2.ensures.value c.append.ensures.words (let b = l.iw.ok.0 in omega (arith, b)) in
    let is = ap length (c.deref_mut-3.ensures.value ∙ first) in
    omega (arith, own, long, is)

pub put_row-requires-clause-small : goal.put_row-requires-clause-small
put_row-requires-clause-small g c =
    let r = c.requires in let row = r.4.there.i_row in let rows = r.3.0.rows in omega (arith, row, rows)

pub overflow_add-result : goal.overflow_add-result
overflow_add-result g c =
    let r = c.requires in let l = c.args.self.now in
    let own = own_in r.0 r.1 r.2 c.args.i c.args.j c.args.mark r.4 _ _ l.next.items l.iw.items r.3.0
    (get_or l.next.items c.args.i 0) refl in
    let places = r.3.0.places in let narrow = g.met.U.Unsigned.narrow in omega (arith, own, places, narrow)

pub returns-clause-held : goal.returns-clause-held
returns-clause-held g c = λ gr seen arcs h new.
    let l = c.args.self.now in let place = get_or l.next.items c.args.i 0 in
    let next_is = moved_on l.next.items c.deref_mut.result.now c.append.new.next c.args.i l.next.len c.deref_mut.ensures.value
    c.append.ensures.ends (let b = l.next.ok.0 in omega (arith, b)) in
    let first = appended l.next.items c.deref_mut.result.now l.iw.items c.deref_mut-2.result.now c.append.new.iw c.args.i c.args.j l.iw.len
    c.deref_mut.ensures.value c.deref_mut-2.ensures.value c.append.ensures.words (let b = l.iw.ok.0 in omega (arith, b)) in
    let words = set (set l.iw.items place (pos c.args.j)) c.args.mark (pos c.args.i) in
    let iw_is = written c.put_row.new.words words
    (drop (length c.put_row.new.words) (take l.iw.len (c.append.new.iw ++ drop (length c.append.new.iw) l.iw.items))) l.iw.len
    (c.put_row.ensures ∙ ap (λ xs. set xs c.args.mark (pos c.args.i)) (c.deref_mut-3.ensures.value ∙ first))
    (let a = length-set l.iw.items place (pos c.args.j) in
    let d = length-set (set l.iw.items place (pos c.args.j)) c.args.mark (pos c.args.i) in let b = l.iw.ok.0 in omega (arith, a, b, d)) in
    let own = own_in gr seen arcs c.args.i c.args.j c.args.mark new _ _ l.next.items l.iw.items h.0 place refl in
    let places = h.0.places in
    rw (next_is, iw_is) (
      run_more gr seen arcs c.args.i c.args.j c.args.mark new _ _ l.next.items l.iw.items h.0 place refl,
      omega (arith, own, places),
    )

pub returns-clause-kept : goal.returns-clause-kept
returns-clause-kept g c =
    let l = c.args.self.now in let place = get_or l.next.items c.args.i 0 in
    let first = appended l.next.items c.deref_mut.result.now l.iw.items c.deref_mut-2.result.now c.append.new.iw c.args.i c.args.j l.iw.len
    c.deref_mut.ensures.value c.deref_mut-2.ensures.value c.append.ensures.words (let b = l.iw.ok.0 in omega (arith, b)) in
    let one = length-set l.iw.items place (pos c.args.j) in
    let two = length-set (set l.iw.items place (pos c.args.j)) c.args.mark (pos c.args.i) in
    let iw_is = written c.put_row.new.words (set (set l.iw.items place (pos c.args.j)) c.args.mark (pos c.args.i))
    (drop (length c.put_row.new.words) (take l.iw.len (c.append.new.iw ++ drop (length c.append.new.iw) l.iw.items))) l.iw.len
    (c.put_row.ensures ∙ ap (λ xs. set xs c.args.mark (pos c.args.i)) (c.deref_mut-3.ensures.value ∙ first))
    (let b = l.iw.ok.0 in omega (arith, one, two, b)) in
    ap (λ k. k ∷ vec_capacity l.next ∷ vec_capacity l.iw ∷ []) (ap length iw_is ∙ two ∙ one)
