-- the goals of bands::spread_band.
use Rattle.std.proofs.Common.{◌≡◌, ◌+◌, ◌<◌, inl, inr, ℕ, ℤ, List, arith, cond, ltb, refl, ap, sym, subst, ◌∙◌, length, set}
use Rattle.std.proofs.Common.{get_or-set_same, get_or-set_other}
use Rattle.std.proofs.lemmas.Bool.{cases_eq, cases_lt, lt-ltb}
use Rattle.std.proofs.lemmas.List.{length-set}
use Rattle.amd_model.specs.Below.{sum_below}
use Rattle.amd_model.specs.Input.Pattern.{graph_of}
use Rattle.amd_edges.specs.Visits.{start_of}
use Rattle.amd_words.specs.Words.{num}
use Rattle.amd_workspace.specs.Copying.{is_other}
use Rattle.amd_workspace.specs.Lower.{Matrix, SpreadsColumns, own_start}
use Rattle.amd_workspace.specs.Bands.{HasHeads, IsReadyForBand, IsReadyForPart, band_part, banded, own_from, spread_to}
use Rattle.amd_workspace.proofs.BandWords.{band_ends, band_next, band_starts, none_in_band, not_lt}
use Rattle.amd_workspace.proofs.LowerWords.{later_list, list_room, next_end, spreads_same}
use Rattle.amd_workspace.proofs.LowerLists.{length_more}
use Rattle.amd_workspace.proofs.bands.spread_band.Given.{Over}
use Rattle.amd_workspace.proofs.bands.spread_band.Goals.{After-cell_at-place}
use Rattle.amd_workspace.proofs.bands.spread_band.Goals as goal

module _ (m : Matrix) (lo hi : ℕ) (degrees : List ℕ) (a b : ℕ) (next : List ℕ) (iw : List ℤ) (heads : List ℕ)
    (r : IsReadyForBand m lo hi degrees a b next iw heads) where
  rows_long : length degrees ≡ m.n
  unfolding graph_of
  rows_long = r.counts.size

  begins : SpreadsColumns m.n m.ap m.ai (banded m.n m.ap m.ai lo hi 0 lo) next iw
  begins = spreads_same m.n m.ap m.ai r.lower (spread_to m.n m.ap m.ai lo) (banded m.n m.ap m.ai lo hi 0 lo) next iw
      (band_starts m.n m.ap m.ai r.lower lo hi 0 r.band r.rows_in refl) r.before

  heads_begin : HasHeads m (λ i. cond (ltb i 0) hi lo) heads
  heads_begin = record {
    long = r.stand.long;
    each = λ j l. rw (not_lt j 0 (omega arith)) (r.stand.each j l);
  }

  -- ---- in column j

  module _ (j end : ℕ) (next' : List ℕ) (iw' : List ℤ) (heads' : List ℕ) (l : j < hi) (is : end ≡ own_start m.n m.ap m.ai j)
      (long : length iw' ≡ length iw) (so : SpreadsColumns m.n m.ap m.ai (banded m.n m.ap m.ai lo hi j lo) next' iw')
      (stand : HasHeads m (λ i. cond (ltb i j) hi lo) heads') where
    j_in : j < m.n
    j_in = let x = r.rows_in in omega (arith, x, l)

    ready : IsReadyForPart m (band_part lo hi j (num heads' j) (end + num degrees j)) a b next' iw'
    ready = let room = r.room in let places = r.places in record {
      lower = r.lower;
      row = l;
      band = r.band;
      rows_in = r.rows_in;
      from = stand.each j j_in ∙ rw (not_lt j j (omega arith)) refl;
      end = next_end m.n m.ap m.ai r.lower degrees r.counts j end j_in is;
      room = omega (arith, room, long);
      rows = r.rows;
      places = omega (arith, places, long);
      before = so;
    }

    heads_next : (place : ℕ) → place ≡ own_from m.n m.ap m.ai j hi → HasHeads m (λ i. cond (ltb i (j + 1)) hi lo) (set heads' j place)
    heads_next place at = record {
      long = length-set heads' j place ∙ stand.long;
      each = λ i i_in. elim (cases_eq i j) [
        | inl e ↦ subst (λ x. num (set heads' j place) x ≡ own_from m.n m.ap m.ai x (cond (ltb x (j + 1)) hi lo)) (sym e)
            (get_or-set_same heads' j place 0 (let s = stand.long in let t = j_in in omega (arith, s, t)) ∙ at
            ∙ sym (rw (lt-ltb j (j + 1) (omega arith)) refl))
        | inr ne ↦ get_or-set_other heads' j i place 0 ne ∙ stand.each i i_in ∙ elim (cases_lt i j) [
          | inl x ↦ rw (lt-ltb i j x, lt-ltb i (j + 1) (omega (arith, x))) refl
          | inr x ↦ rw (not_lt i j x, not_lt i (j + 1) (omega (arith, x, ne))) refl
        ]
      ];
    }

    spreads_next : (next'' : List ℕ) (iw'' : List ℤ) → SpreadsColumns m.n m.ap m.ai (banded m.n m.ap m.ai lo hi j hi) next'' iw'' →
        SpreadsColumns m.n m.ap m.ai (banded m.n m.ap m.ai lo hi (j + 1) lo) next'' iw''
    spreads_next next'' iw'' h = spreads_same m.n m.ap m.ai r.lower (banded m.n m.ap m.ai lo hi j hi)
        (banded m.n m.ap m.ai lo hi (j + 1) lo) next'' iw'' (band_next m.n m.ap m.ai r.lower lo hi j r.band r.rows_in) h

  -- ---- behind the last column

  module _ (j : ℕ) (next' : List ℕ) (iw' : List ℤ) (heads' : List ℕ) (last : j ≡ hi)
      (so : SpreadsColumns m.n m.ap m.ai (banded m.n m.ap m.ai lo hi j lo) next' iw')
      (stand : HasHeads m (λ i. cond (ltb i j) hi lo) heads') where
    ends : SpreadsColumns m.n m.ap m.ai (spread_to m.n m.ap m.ai hi) next' iw'
    ends = spreads_same m.n m.ap m.ai r.lower (banded m.n m.ap m.ai lo hi j lo) (spread_to m.n m.ap m.ai hi) next' iw'
        (band_ends m.n m.ap m.ai r.lower lo hi j r.band r.rows_in last) so

    heads_end : HasHeads m (λ i. hi) heads'
    heads_end = record {
      long = stand.long;
      each = λ i i_in. stand.each i i_in ∙ elim (cases_lt i j) [
        | inl x ↦ rw (lt-ltb i j x) refl
        | inr x ↦ rw (not_lt i j x) (none_in_band m.n m.ap m.ai r.lower lo hi i r.band (omega (arith, x, last)) i_in)
      ];
    }

pub columns-init : goal.columns-init
unfolding start_of sum_below
columns-init g c = record {
  long = refl;
  heads_long = refl;
  end = λ m lo r. refl;
  spreads = λ m lo r. begins m lo _ _ _ _ _ _ _ r;
  heads = λ m lo r. heads_begin m lo _ _ _ _ _ _ _ r;
}

pub cell_at-end-requires : goal.cell_at-end-requires
cell_at-end-requires g c =
    let m = c.requires.laid.0 in let lo = c.requires.laid.1 in let r = c.requires.laid.2 in
    let size = rows_long m lo _ _ _ _ _ _ _ r in let rows = r.rows_in in let t = c.columns-test.true in omega (arith, size, rows, t)

pub cell_at-place-requires : goal.cell_at-place-requires
cell_at-place-requires g c =
    let r = c.requires.laid.2 in let size = r.stand.long in let rows = r.rows_in in let t = c.columns-test.true in
    let long = c.columns.invariant.heads_long in omega (arith, size, rows, t, long)

pub overflow_add-end : goal.overflow_add-end
overflow_add-end g c =
    let m = c.requires.laid.0 in let lo = c.requires.laid.1 in let r = c.requires.laid.2 in let rows = r.rows_in in
    let t = c.columns-test.true in
    let d = list_room m.n m.ap m.ai r.lower c.args.degrees.now r.counts c.columns.j c.columns.end (omega (arith, rows, t))
    (c.columns.invariant.end m lo r) in
    let room = r.room in let places = r.places in let n = g.met.U.Unsigned.narrow in
    let is = c.cell_at-end.ensures.is in omega (arith, d, room, places, n, is)

pub spread_until-left-requires : goal.spread_until-left-requires
spread_until-left-requires g c =
    let m = c.requires.laid.0 in let lo = c.requires.laid.1 in let r = c.requires.laid.2 in let i = c.columns.invariant in record {
      ready = rw (c.cell_at-place.ensures.is, c.cell_at-end.ensures.is) (
        m,
        lo,
        ready m lo c.args.hi c.args.degrees.now _ _ c.args.next.now c.args.iw.now c.args.heads.now r c.columns.j c.columns.end
            c.columns.next
            c.columns.iw c.columns.heads c.columns-test.true (i.end m lo r) i.long (i.spreads m lo r) (i.heads m lo r),
      );
    }

-- column j, as it comes next
next : (g : Over) (c : After-cell_at-place g) (m : Matrix) (lo : ℕ) →
    IsReadyForBand m lo c.args.hi c.args.degrees.now g.S.Signed.MOST g.U.Unsigned.MOST c.args.next.now c.args.iw.now c.args.heads.now →
    IsReadyForPart m (band_part lo c.args.hi c.columns.j c.cell_at-place.result (c.columns.end + c.cell_at-end.result))
    g.S.Signed.MOST g.U.Unsigned.MOST c.columns.next c.columns.iw
next g c m lo r = let i = c.columns.invariant in
    rw (c.cell_at-place.ensures.is, c.cell_at-end.ensures.is) (ready m lo c.args.hi c.args.degrees.now _ _ c.args.next.now c.args.iw.now
    c.args.heads.now r c.columns.j c.columns.end c.columns.next c.columns.iw c.columns.heads c.columns-test.true (i.end m lo r) i.long
    (i.spreads m lo r) (i.heads m lo r))

pub put_cell-requires-clause-inside : goal.put_cell-requires-clause-inside
put_cell-requires-clause-inside g c =
    let r = c.requires.laid.2 in let size = r.stand.long in let rows = r.rows_in in let t = c.columns-test.true in
    let long = c.columns.invariant.heads_long in omega (arith, size, rows, t, long)

pub put_cell-requires-clause-fits : goal.put_cell-requires-clause-fits
put_cell-requires-clause-fits g c =
    let m = c.requires.laid.0 in let lo = c.requires.laid.1 in let r = c.requires.laid.2 in let t = c.columns-test.true in
    let at = (c.spread_until-left.ensures.after m lo
    (next g (goal.at.put_cell-requires-clause-fits g c).After-cell_at-place m lo r)).1 in
    let in_band = r.rows_in in let j_in : c.columns.j < m.n = omega (arith, t, in_band) in
    let few = length_more m.n c.args.hi (is_other m.n m.ap m.ai c.columns.j) in_band in
    let later = later_list m.n m.ap m.ai r.lower c.columns.j m.n j_in (omega arith) in
    let room = r.room in let places = r.places in omega (arith, at, few, later, room, places)

pub columns-preserved : goal.columns-preserved
columns-preserved g c = let i = c.columns.invariant in
    let to = (goal.at.columns-preserved g c).After-cell_at-place in record {
      long = c.spread_until-left.ensures.long ∙ i.long;
      heads_long = ap length c.put_cell.ensures ∙ length-set c.columns.heads c.columns.j c.spread_until-left.result ∙ i.heads_long;
      end = λ m lo r. (next g to m lo r).end;
      spreads = λ m lo r. spreads_next m lo c.args.hi c.args.degrees.now _ _ c.args.next.now c.args.iw.now c.args.heads.now r c.columns.j
          c.columns.end c.columns.next c.columns.iw c.columns.heads c.columns-test.true (i.end m lo r) i.long (i.spreads m lo r)
          (i.heads m lo r) c.spread_until-left.new.next c.spread_until-left.new.iw
          (c.spread_until-left.ensures.after m lo (next g to m lo r)).0;
      heads = λ m lo r. rw c.put_cell.ensures (heads_next m lo c.args.hi c.args.degrees.now _ _ c.args.next.now c.args.iw.now
          c.args.heads.now r c.columns.j c.columns.end c.columns.next c.columns.iw c.columns.heads c.columns-test.true (i.end m lo r) i.long
          (i.spreads m lo r) (i.heads m lo r) c.spread_until-left.result (c.spread_until-left.ensures.after m lo (next g to m lo r)).1);
    }

pub returns-clause-after : goal.returns-clause-after
returns-clause-after g c = λ m lo r. let i = c.columns.invariant in
    let last : c.columns.j ≡ c.args.hi = (let a = c.columns.auto.j-end in let b = c.columns-test.false in omega (arith, a, b)) in (
      ends m lo c.args.hi c.args.degrees.now _ _ c.args.next.now c.args.iw.now c.args.heads.now r c.columns.j c.columns.next c.columns.iw
          c.columns.heads last (i.spreads m lo r) (i.heads m lo r),
      heads_end m lo c.args.hi c.args.degrees.now _ _ c.args.next.now c.args.iw.now c.args.heads.now r c.columns.j c.columns.next
          c.columns.iw c.columns.heads last (i.spreads m lo r) (i.heads m lo r),
    )
