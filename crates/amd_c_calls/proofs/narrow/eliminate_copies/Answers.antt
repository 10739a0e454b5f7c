-- The copies are lists of the same graph, so that what the engine answers of them is an answer of the caller's lists.
use Rattle.std.proofs.Common.{ℕ, ℤ, List, None, ◌≡◌, length, take, drop, refl, sym, ◌∙◌, ap, arith}
use Rattle.std.proofs.lemmas.List.{map-id, take_all, take_at}
use Rattle.amd_engine.proofs.RaisedLists.{answers_same}
use Rattle.amd_c_calls.proofs.SameLists.{lays_copied}
use Rattle.amd_c_calls.proofs.Eliminated.{answers_copied}
use Rattle.amd_c_calls.proofs.narrow.eliminate_copies.Goals as goal

-- a list as long as another one that it begins with
same_from : (xs ys : List ℤ) → length xs ≡ length ys → take (length ys) xs ≡ ys → xs ≡ ys
same_from xs ys long begins = sym (take_all (length ys) xs (omega (arith, long))) ∙ begins

-- a list that begins with another one begins as that
begins_as : (xs ys : List ℤ) → take (length ys) xs ≡ ys → take (length ys) xs ≡ take (length ys) ys
begins_as xs ys begins = begins ∙ sym (take_all (length ys) ys (omega arith))

pub amd_2_from-requires-clause-graph : goal.amd_2_from-requires-clause-graph
amd_2_from-requires-clause-graph c =
    let pe : List ℤ = c.args.pe.now in let iw : List ℤ = c.args.iw.now in let w = c.requires.graph in
    let copied = c.in_ok-links.ensures in
    let starts : c.deref_mut.result.now ≡ pe = c.deref_mut.ensures.value ∙ same_from _ pe copied.long copied.same in
    let words : take (length iw) c.deref_mut-2.result.now ≡ take (length iw) iw = ap (take (length iw)) c.deref_mut-2.ensures.value
    ∙ begins_as _ iw c.in_ok-lists.ensures.same in
    (w.0, w.1, lays_copied _ iw _ _ _ _ _ _ c.requires.laid words starts (c.deref_mut-3.ensures.value ∙ c.in_ok-counts.ensures) w.0 w.1 w.2)

pub returns-clause-orders : goal.returns-clause-orders
returns-clause-orders c = λ graph lists lays.
    let pe : List ℤ = c.args.pe.now in let iw : List ℤ = c.args.iw.now in let len : List ℕ = c.args.len.now in
    let copied = c.in_ok-links.ensures in
    let starts : c.deref_mut.result.now ≡ pe = c.deref_mut.ensures.value ∙ same_from _ pe copied.long copied.same in
    let words : take (length iw) c.deref_mut-2.result.now ≡ take (length iw) iw = ap (take (length iw)) c.deref_mut-2.ensures.value
    ∙ begins_as _ iw c.in_ok-lists.ensures.same in
    let counts : c.deref_mut-3.result.now ≡ len = c.deref_mut-3.ensures.value ∙ c.in_ok-counts.ensures in
    let l = c.in_ok-links.links in let new_pe : List ℤ = c.amd_2_from.new.pe in let a = c.in_ok-nv in
    let long : length new_pe ≡ l.len = c.amd_2_from.auto.pe ∙ ap length c.deref_mut.ensures.value ∙ sym l.ok.0 in
    let old = c.args.info.now in let new = c.amd_2_from.new.info in
    let one = answers_copied _ iw _ pe _ len _ _ c.requires.laid words starts counts c.args.control.now _ old new a.ensures.orders graph
    lists lays in
    answers_same graph lists None _ _ c.args.control.now _ _ old new one refl (sym (map-id a.p.items)) (sym (map-id a.p_inv.items)) refl
    refl (take_at new_pe (drop (length new_pe) l.items) l.len long)
