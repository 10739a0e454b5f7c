use Rattle.std.proofs.Common.{◌≡◌, ◌<◌, pos, map, length, get_or, arith, refl, sym, ◌∙◌, subst}
use Rattle.std.specs.Int.{FitsUnsignedBits}
use Rattle.std.proofs.lemmas.Int.{ints}
use Rattle.std.proofs.lemmas.List.{length-map}
use Rattle.amd_factor.proofs.Lists.Inverse.{places_none, places_more, all_permutes, all_places, permutes_at, permutes_below, permutes_fresh}
use Rattle.amd_factor.proofs.places.place_rows.Goals as goal
use Rattle.amd_factor.proofs.places.place_rows.Goals.{then-row-size-via-then-row-size, then-row-size-via-else-row-size+then-places-row}

pub rows-init : goal.rows-init
rows-init g c =
    places_none (length c.args.places.now) (map g.I.Index.value c.args.p.now) c.args.places.now refl c.requires.unmet

pub returns-in_default-clause-none : goal.returns-in_default-clause-none
returns-in_default-clause-none g c = λ no rows h.
    let p = map g.I.Index.value c.args.p.now in
    let is = permutes_at (length c.args.places.now) p rows h c.rows.k (omega arith) in
    let below = permutes_below (length c.args.places.now) p rows h c.rows.k (omega arith) in
    let fits : FitsUnsignedBits 64 (pos (get_or rows c.rows.k 0)) = omega (arith, below) in
    c.in_default.ensures (subst (λ z. FitsUnsignedBits 64 z) (sym (c.value_at.ensures ∙ is)) fits)

pub returns-then-row-size-clause-none : goal.returns-then-row-size-clause-none
returns-then-row-size-clause-none g c = λ no rows h.
    let p = map g.I.Index.value c.args.p.now in
    let row = c.in-Some.row in
    let is = permutes_at (length c.args.places.now) p rows h c.rows.k (omega arith) in
    let below = permutes_below (length c.args.places.now) p rows h c.rows.k (omega arith) in
    let value = c.in-Some.ensures.1 ∙ c.value_at.ensures in
    let same : row ≡ get_or rows c.rows.k 0 = (let e = value ∙ is in omega (arith, ints, e)) in
    let inside : row < (length c.args.places.now) = omega (arith, same, below) in
    elim c.then-row-size.branch [
      | then-row-size-via-then-row-size w ↦ (let out = w.if-row-size.true in omega (arith, out, inside))
      | then-row-size-via-else-row-size+then-places-row w ↦ (
          let fresh = permutes_fresh (length c.args.places.now) p rows h c.rows.k row
          (omega arith) (sym value) c.rows.places c.rows.invariant inside
          in
          w.if-places-row.true fresh)
    ]

pub rows-preserved : goal.rows-preserved
rows-preserved g c =
    let p = map g.I.Index.value c.args.p.now in
    let row = c.in-Some.row in
    let inside : row < (length c.args.places.now) = (let x = c.if-row-size.false in omega (arith, x)) in
    places_more (length c.args.places.now) p c.rows.k row c.rows-test.true inside (sym (c.in-Some.ensures.1 ∙ c.value_at.ensures))
    c.rows.places c.rows.invariant c.if-places-row.false

pub returns-clause-permutation : goal.returns-clause-permutation
returns-clause-permutation g c = λ yes.
    let p = map g.I.Index.value c.args.p.now in
    let all : c.rows.k ≡ (length c.args.places.now) = omega arith in
    let size : length p ≡ (length c.args.places.now) = (let x = c.if-p-size.false in simp length-map (omega (arith, x))) in
    all_permutes (length c.args.places.now) p size c.rows.places (rw all at c.rows.invariant)

pub returns-clause-places : goal.returns-clause-places
returns-clause-places g c = λ yes.
    let p = map g.I.Index.value c.args.p.now in
    let all : c.rows.k ≡ (length c.args.places.now) = omega arith in
    let size : length p ≡ (length c.args.places.now) = (let x = c.if-p-size.false in simp length-map (omega (arith, x))) in
    all_places (length c.args.places.now) p size c.rows.places (rw all at c.rows.invariant)
