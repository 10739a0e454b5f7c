use Rattle.std.proofs.Common.{◌≡◌, ◌<◌, inl, inr, ap, subst, sym, ◌∙◌, arith, length, map, set}
use Rattle.std.specs.Prelude.{slice_index, Contains}
use Rattle.std.proofs.lemmas.Bool.{cases_eq}
use Rattle.std.proofs.lemmas.List.{get_or-set_same, get_or-set_other}
use Rattle.amd_types.specs.Naturals.{naturals}
use Rattle.amd_factor.proofs.Factors.NewRows.{place_in}
use Rattle.amd_factor.proofs.Factors.PlaceNumbers.{counts_long, place_of}
use Rattle.amd_factor.proofs.gathering.mark_rows.Goals as goal

pub place_at-requires-clause-small : goal.place_at-requires-clause-small
place_at-requires-clause-small g c =
    let w = c.requires.within _ (place_of g.N.Index.value c.args.rows.now c.rows.k c.rows-test.true) in omega (arith, w)

pub offset_bounds-mark-place_at : goal.offset_bounds-mark-place_at
offset_bounds-mark-place_at g c =
    let w = c.requires.within _ (place_of g.N.Index.value c.args.rows.now c.rows.k c.rows-test.true) in
    let e = c.place_at.ensures in omega (arith, w, e)

pub bounds-mark-place_at : goal.bounds-mark-place_at
bounds-mark-place_at g c =
    let w = c.requires.within _ (place_of g.N.Index.value c.args.rows.now c.rows.k c.rows-test.true) in
    let e = c.place_at.ensures in
    let same = c.rows.auto.mark in omega (arith, w, e, same)

pub rows-preserved : goal.rows-preserved
rows-preserved g c =
    let rows = naturals (map g.N.Index.value c.args.rows.now) in
    let row = slice_index rows c.rows.k in
    let w = c.requires.within _ (place_of g.N.Index.value c.args.rows.now c.rows.k c.rows-test.true) in
    let same = c.rows.auto.mark in
    let inside : row < length c.rows.mark = omega (arith, w, same) in
    let here : slice_index (set c.rows.mark row c.args.stamp) row ≡ c.args.stamp = get_or-set_same c.rows.mark row c.args.stamp 0 inside in
    rw c.place_at.ensures (record {
      marked = λ k l. elim (cases_eq (slice_index rows k) row) [
        | inl q ↦ ap (slice_index (set c.rows.mark row c.args.stamp)) q ∙ here
        | inr ne ↦ get_or-set_other c.rows.mark row (slice_index rows k) c.args.stamp 0 ne ∙
            c.rows.invariant.marked k (elim (cases_eq k c.rows.k) [
              | inl e ↦ absurd (ne (ap (slice_index rows) e))
              | inr low ↦ omega (arith, l, low)
            ])
      ];
      others = λ j none. get_or-set_other c.rows.mark row j c.args.stamp 0 (λ q. none c.rows.k (omega arith) (sym q)) ∙
          c.rows.invariant.others j (λ k l. none k (omega (arith, l)));
    })

pub returns-clause-marked : goal.returns-clause-marked
returns-clause-marked g c = λ j h.
    let p = place_in (naturals (map g.N.Index.value c.args.rows.now)) j h in
    let t = c.rows-test.false in let n = counts_long g.N.Index.value c.args.rows.now in
    subst (λ x. slice_index c.rows.mark x ≡ c.args.stamp) p.2 (c.rows.invariant.marked p.0 (let l = p.1 in omega (arith, l, t, n)))

pub returns-clause-others : goal.returns-clause-others
returns-clause-others g c = λ j none. c.rows.invariant.others j (λ k l q. none (subst (λ x. Contains
    (naturals (map g.N.Index.value c.args.rows.now)) x) q
    (place_of g.N.Index.value c.args.rows.now k (let t = c.rows.auto.k-end in omega (arith, l, t)))))
