use Rattle.std.proofs.Common.{ℕ, ℤ, List, pos, true, false, inl, refl, ◌≡◌, ◌≢◌, ◌<◌, ◌+◌, ◌∙◌, ap, subst, sym, arith, length, map}
use Rattle.std.proofs.Math.ListN.{set}
use Rattle.std.proofs.lemmas.List.{length-map}
use Rattle.amd_model.specs.State.{Home, Last, gone_at}
use Rattle.amd_words.specs.Words.{num, size_of, is_place, word, place}
use Rattle.amd_listing.specs.Ended.{LinksAre, Shortens}
use Rattle.amd_listing.proofs.RowLinks.{unmarked, link_some, link_none, linked_gone}
use Rattle.amd_listing.proofs.Passed.{passed_none, passed_same, passed_element, passed_last, passed_other, next_small}
use Rattle.amd_listing.proofs.Passed.{place_small}
use Rattle.amd_listing.proofs.rows.place_others.Goals as goal
use Rattle.amd_listing.proofs.rows.place_others.Goals.{then-size_outside-eq0+then-names_one, then-size_outside-eq0+else-names_one}
use Rattle.amd_listing.proofs.rows.place_others.Goals.{else-size_outside-eq0}

-- a row that is no element and linked is in the block of another
gone_by : (n : ℕ) (link nv : List ℤ) (home : ℕ → Home) → LinksAre n link nv home → (v : ℕ) → v < n → size_of nv v ≡ 0 →
    is_place (word link v) ≡ true → gone_at (home v) ≡ true
gone_by n link nv home are v small none names = linked_gone n link nv home are v (place (word link v))
    (link_some link nv v (let l = are.link_long in omega (arith, small, l)) none names)

-- and one that is not linked is held last
last_by : (n : ℕ) (link nv : List ℤ) (home : ℕ → Home) → LinksAre n link nv home → (v : ℕ) → v < n → size_of nv v ≡ 0 →
    is_place (word link v) ≡ false → home v ≡ Last
last_by n link nv home are v small none names =
    are.others v none (link_none link nv v (let l = are.link_long in omega (arith, small, l)) none names)

apart : (nv : List ℤ) (v e : ℕ) → size_of nv v ≡ 0 → 0 < size_of nv e → v ≢ e
apart nv v e none some q = let s = ap (size_of nv) q in omega (arith, s, none, some)

-- links that were shortened twice
both : (nv a b d : List ℤ) → Shortens nv a b → Shortens nv b d → Shortens nv a d
both nv a b d one two = record {
  led = λ home are. two.led home (one.led home are);
  parents = λ e some. two.parents e some ∙ one.parents e some;
}

pub rows-init : goal.rows-init
rows-init g c = record {
  shortens = record { led = λ home are. are; parents = λ e some. refl };
  passed = λ home elements b. passed_none c.args.link.now c.args.nv.now c.args.place.now c.args.end home elements b
      (map pos c.args.p.now) (map pos c.args.p_inv.now) c.requires.pivots;
}

pub size_outside-requires-clause-fresh : goal.size_outside-requires-clause-fresh
size_outside-requires-clause-fresh g c =
    unmarked (length c.args.nv.now) c.args.link.now c.args.nv.now c.requires.blocks.0 c.requires.blocks.2.led c.rows.v

pub element_of-e-requires-clause-led : goal.element_of-e-requires-clause-led
element_of-e-requires-clause-led g c =
    let home = c.requires.blocks.0 in let are = c.rows.invariant.shortens.led home c.requires.blocks.2.led in (
      home,
      are,
      gone_by (length c.args.nv.now) c.rows.link c.args.nv.now home are c.rows.v c.rows-test.true
          (sym c.size_outside.ensures ∙ c.if-size_outside-eq0.true) (sym c.names_one.ensures ∙ c.if-names_one.true),
    )

pub take_place-k-requires-clause-fits : goal.take_place-k-requires-clause-fits
take_place-k-requires-clause-fits g c =
    let nv = c.args.nv.now in let v = c.rows.v in let e = c.element_of-e.result in
    let home = c.requires.blocks.0 in let elements = c.requires.blocks.1 in let b = c.requires.blocks.2 in
    let none : size_of nv v ≡ 0 = sym c.size_outside.ensures ∙ c.if-size_outside-eq0.true in
    let small = place_small c.args.link.now nv c.args.place.now c.args.end home elements b c.rows.place c.rows.next (map pos c.rows.p)
    (map pos c.rows.p_inv) v (c.rows.invariant.passed home elements b) e
    (c.element_of-e.ensures.home home (c.rows.invariant.shortens.led home b.led)) c.element_of-e.ensures.rows
    (apart nv v e none c.element_of-e.ensures.rows) c.rows-test.true in
    let most = c.requires.narrow.1 in omega (arith, small, most)

pub put_listed-requires-clause-inside : goal.put_listed-requires-clause-inside
put_listed-requires-clause-inside g c =
    let nv = c.args.nv.now in let v = c.rows.v in let e = c.element_of-e.result in
    let home = c.requires.blocks.0 in let elements = c.requires.blocks.1 in let b = c.requires.blocks.2 in
    let none : size_of nv v ≡ 0 = sym c.size_outside.ensures ∙ c.if-size_outside-eq0.true in
    let small = place_small c.args.link.now nv c.args.place.now c.args.end home elements b c.rows.place c.rows.next (map pos c.rows.p)
    (map pos c.rows.p_inv) v (c.rows.invariant.passed home elements b) e
    (c.element_of-e.ensures.home home (c.rows.invariant.shortens.led home b.led)) c.element_of-e.ensures.rows
    (apart nv v e none c.element_of-e.ensures.rows) c.rows-test.true in
    let is = c.take_place-k.ensures.is in let l = c.requires.lengths in let t = c.rows-test.true in
    let a = c.rows.auto.p in let d = c.rows.auto.p_inv in
    (omega (arith, t, l, d), omega (arith, small, is, l, a))

pub put_listed-requires-clause-fits : goal.put_listed-requires-clause-fits
put_listed-requires-clause-fits g c =
    let nv = c.args.nv.now in let v = c.rows.v in let e = c.element_of-e.result in
    let home = c.requires.blocks.0 in let elements = c.requires.blocks.1 in let b = c.requires.blocks.2 in
    let none : size_of nv v ≡ 0 = sym c.size_outside.ensures ∙ c.if-size_outside-eq0.true in
    let small = place_small c.args.link.now nv c.args.place.now c.args.end home elements b c.rows.place c.rows.next (map pos c.rows.p)
    (map pos c.rows.p_inv) v (c.rows.invariant.passed home elements b) e
    (c.element_of-e.ensures.home home (c.rows.invariant.shortens.led home b.led)) c.element_of-e.ensures.rows
    (apart nv v e none c.element_of-e.ensures.rows) c.rows-test.true in
    let is = c.take_place-k.ensures.is in
    let t = c.rows-test.true in let most = c.requires.narrow.1 in (omega (arith, t, most), omega (arith, small, is, most))

pub put_listed-requires-else-names_one-clause-inside : goal.put_listed-requires-else-names_one-clause-inside
put_listed-requires-else-names_one-clause-inside g c =
    let nv = c.args.nv.now in let v = c.rows.v in
    let home = c.requires.blocks.0 in let elements = c.requires.blocks.1 in let b = c.requires.blocks.2 in
    let last = last_by (length nv) c.rows.link nv home (c.rows.invariant.shortens.led home b.led) v c.rows-test.true
    (sym c.size_outside.ensures ∙ c.if-size_outside-eq0.true) (sym c.names_one.ensures ∙ c.if-names_one.false) in
    let small = next_small c.args.link.now nv c.args.place.now c.args.end home elements b c.rows.place c.rows.next (map pos c.rows.p)
    (map pos c.rows.p_inv) v (c.rows.invariant.passed home elements b) last c.rows-test.true in
    let l = c.requires.lengths in let t = c.rows-test.true in let a = c.rows.auto.p in let d = c.rows.auto.p_inv in
    (omega (arith, t, l, d), omega (arith, small, l, a))

pub put_listed-requires-else-names_one-clause-fits : goal.put_listed-requires-else-names_one-clause-fits
put_listed-requires-else-names_one-clause-fits g c =
    let nv = c.args.nv.now in let v = c.rows.v in
    let home = c.requires.blocks.0 in let elements = c.requires.blocks.1 in let b = c.requires.blocks.2 in
    let last = last_by (length nv) c.rows.link nv home (c.rows.invariant.shortens.led home b.led) v c.rows-test.true
    (sym c.size_outside.ensures ∙ c.if-size_outside-eq0.true) (sym c.names_one.ensures ∙ c.if-names_one.false) in
    let small = next_small c.args.link.now nv c.args.place.now c.args.end home elements b c.rows.place c.rows.next (map pos c.rows.p)
    (map pos c.rows.p_inv) v (c.rows.invariant.passed home elements b) last c.rows-test.true in
    let t = c.rows-test.true in let most = c.requires.narrow.1 in (omega (arith, t, most), omega (arith, small, most))

pub overflow_add-next : goal.overflow_add-next
overflow_add-next g c =
    let nv = c.args.nv.now in let v = c.rows.v in
    let home = c.requires.blocks.0 in let elements = c.requires.blocks.1 in let b = c.requires.blocks.2 in
    let last = last_by (length nv) c.rows.link nv home (c.rows.invariant.shortens.led home b.led) v c.rows-test.true
    (sym c.size_outside.ensures ∙ c.if-size_outside-eq0.true) (sym c.names_one.ensures ∙ c.if-names_one.false) in
    let small = next_small c.args.link.now nv c.args.place.now c.args.end home elements b c.rows.place c.rows.next (map pos c.rows.p)
    (map pos c.rows.p_inv) v (c.rows.invariant.passed home elements b) last c.rows-test.true in
    let most = c.requires.narrow.1 in let top = g.met.U.Unsigned.narrow in omega (arith, small, most, top)

pub rows-preserved : goal.rows-preserved
rows-preserved g c =
    let i = c.rows.invariant in
    let old = c.args.link.now in let nv = c.args.nv.now in let starts = c.args.place.now in let end = c.args.end in
    let n : ℕ = length nv in let v = c.rows.v in
    let link = c.rows.link in let place = c.rows.place in let next = c.rows.next in
    let p : List ℤ = map pos c.rows.p in let q : List ℤ = map pos c.rows.p_inv in
    let small : v < n = c.rows-test.true in
    let new_p : List ℤ = map pos c.if-size_outside-eq0.p in let new_q : List ℤ = map pos c.if-size_outside-eq0.p_inv in
    let room = c.requires.lengths in
    let p_long : length p ≡ n = (let a = c.rows.auto.p in let m : length p ≡ length c.rows.p = simp length-map in
    omega (arith, a, m, room)) in
    let q_long : length q ≡ n = (let a = c.rows.auto.p_inv in let m : length q ≡ length c.rows.p_inv = simp length-map in
    omega (arith, a, m, room)) in
    elim c.if-size_outside-eq0.branch [
      | then-size_outside-eq0+then-names_one w ↦ (
          let none : size_of nv v ≡ 0 = sym c.size_outside.ensures ∙ w.if-size_outside-eq0.true in
          let e = w.element_of-e.result in let made = w.element_of-e.ensures in
          let some : 0 < size_of nv e = made.rows in
          let taken = w.take_place-k.ensures in
          record {
            shortens = subst (Shortens nv old) (sym w.link-is) (both nv old link w.element_of-e.new.link i.shortens made.shortens);
            passed = λ home elements b.
                let m = made.within in let a = c.rows.auto.place in let l = b.begun.long in
                let inside : e < length place = omega (arith, m, a, l) in
                passed_same nv starts end home elements (set place e (num place e + 1)) c.if-size_outside-eq0.place next
                c.if-size_outside-eq0.next (set p (num place e) (pos v)) new_p (set q v (pos (num place e))) new_q (v + 1)
                (w.place-is ∙ taken.next) w.next-is
                (ap (map pos) w.p-is ∙ w.put_listed.ensures.listed ∙ ap (λ k. set p k (pos v)) taken.is)
                (ap (map pos) w.p_inv-is ∙ w.put_listed.ensures.inverse ∙ ap (λ k. set q v (pos k)) taken.is)
                (passed_other old nv starts end home elements b place next p q v (i.passed home elements b) e
                (made.home home (i.shortens.led home b.led)) some (apart nv v e none some) small inside p_long q_long);
          })
      | then-size_outside-eq0+else-names_one w ↦ (
          let none : size_of nv v ≡ 0 = sym c.size_outside.ensures ∙ w.if-size_outside-eq0.true in
          let off : is_place (word link v) ≡ false = sym w.names_one.ensures ∙ w.if-names_one.false in
          record {
            shortens = subst (Shortens nv old) (sym w.link-is) i.shortens;
            passed = λ home elements b.
                passed_same nv starts end home elements place c.if-size_outside-eq0.place (next + 1) c.if-size_outside-eq0.next
                (set p next (pos v)) new_p (set q v (pos next)) new_q (v + 1) w.place-is w.next-is
                (ap (map pos) w.p-is ∙ w.put_listed-else-names_one.ensures.listed)
                (ap (map pos) w.p_inv-is ∙ w.put_listed-else-names_one.ensures.inverse)
                (passed_last old nv starts end home elements b place next p q v (i.passed home elements b)
                (last_by n link nv home (i.shortens.led home b.led) v small none off) small p_long q_long);
          })
      | else-size_outside-eq0 w ↦ (
          let some : 0 < size_of nv v = (let a = c.size_outside.ensures in let t = w.if-size_outside-eq0.false in omega (arith, a, t)) in
          record {
            shortens = subst (Shortens nv old) (sym w.link-is) i.shortens;
            passed = λ home elements b.
                passed_same nv starts end home elements place c.if-size_outside-eq0.place next c.if-size_outside-eq0.next p new_p q new_q
                (v + 1) w.place-is w.next-is (ap (map pos) w.p-is) (ap (map pos) w.p_inv-is)
                (passed_element old nv starts end home elements b place next p q v (i.passed home elements b) some);
          })
    ]

pub returns : goal.returns
returns g c = record {
  placed = λ home elements b w small.
      (c.rows.invariant.passed home elements b).placed w small (inl (let t = c.rows-test.false in omega (arith, t, small)));
  shortens = c.rows.invariant.shortens;
}
