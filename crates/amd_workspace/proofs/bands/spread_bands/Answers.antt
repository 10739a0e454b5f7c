-- the goals of bands::spread_bands.
use Rattle.std.proofs.Common.{◌≡◌, ◌≤◌, ℕ, ℤ, List, arith, refl, sym, ◌∙◌, length}
use Rattle.std.proofs.lemmas.Bool.{lt-ltb}
use Rattle.amd_model.specs.Below.{list_below}
use Rattle.amd_model.specs.Input.Pattern.{graph_of}
use Rattle.amd_workspace.specs.Lower.{Matrix, HasColumns, SpreadsColumns, earlier_below}
use Rattle.amd_workspace.specs.Bands.{HasHeads, IsReadyForBand, spread_to}
use Rattle.amd_workspace.proofs.BandWords.{not_lt}
use Rattle.amd_workspace.proofs.LowerWords.{spread_lists_are, spreads_same}
use Rattle.amd_workspace.proofs.bands.spread_bands.Goals as goal
use Rattle.amd_workspace.proofs.bands.spread_bands.Goals.{then-n-lo, else-n-lo}

module _ (m : Matrix) (degrees : List ℕ) (a b : ℕ) (next : List ℕ) (iw : List ℤ) (h : HasColumns m degrees a b next iw) where
  rows_long : length degrees ≡ m.n
  unfolding graph_of
  rows_long = h.counts.size

  begins : SpreadsColumns m.n m.ap m.ai (spread_to m.n m.ap m.ai 0) next iw
  unfolding spread_to list_below
  begins = spreads_same m.n m.ap m.ai h.lower (earlier_below m.n m.ap m.ai 0) (spread_to m.n m.ap m.ai 0) next iw
      (λ a l. rw (not_lt a 0 (omega arith)) refl) h.before

  module _ (lo : ℕ) (next' : List ℕ) (iw' : List ℤ) (so : SpreadsColumns m.n m.ap m.ai (spread_to m.n m.ap m.ai lo) next' iw') where
    ready : (hi : ℕ) (heads : List ℕ) → lo ≤ hi → hi ≤ length degrees → length iw' ≡ length iw → HasHeads m (λ j. lo) heads →
        IsReadyForBand m lo hi degrees a b next' iw' heads
    ready hi heads low high long stand = let size = rows_long in let room = h.room in let places = h.places in record {
      lower = h.lower;
      band = low;
      rows_in = omega (arith, size, high);
      counts = h.counts;
      room = omega (arith, room, long);
      rows = h.rows;
      places = omega (arith, places, long);
      stand = stand;
      before = so;
    }

    ends : m.n ≤ lo → lo ≤ m.n → SpreadsColumns m.n m.ap m.ai (earlier_below m.n m.ap m.ai m.n) next' iw'
    unfolding spread_to
    ends all most = spreads_same m.n m.ap m.ai h.lower (spread_to m.n m.ap m.ai lo) (earlier_below m.n m.ap m.ai m.n) next' iw'
        (λ a l. sym (rw (lt-ltb a lo (omega (arith, l, all))) refl)) so

pub bands-init : goal.bands-init
bands-init g c = record {
  long = refl;
  low = omega arith;
  spreads = λ m h s. begins m _ _ _ _ _ h;
  stand = λ m h s. s;
}

pub spread_band-requires : goal.spread_band-requires
spread_band-requires g c =
    let m = c.requires.laid.0 in let h = c.requires.laid.1 in let s = c.requires.laid.2 in let i = c.bands.invariant in
    let low = i.low in let t = c.bands-test.true in
    let range : (c.bands.lo ≤ c.if-n-lo.hi) × (c.if-n-lo.hi ≤ length c.args.degrees.now) = elim c.if-n-lo.branch [
      | then-n-lo w ↦ (let e = w.hi-is in (omega (arith, e, low), omega (arith, e)))
      | else-n-lo w ↦ (let e = w.hi-is in let f = w.if-n-lo.false in (omega (arith, e), omega (arith, e, f, low)))
    ] in record {
      laid = (
        m,
        c.bands.lo,
        ready m c.args.degrees.now _ _ c.args.next.now c.args.iw.now h c.bands.lo c.bands.next c.bands.iw (i.spreads m h s) c.if-n-lo.hi
            c.bands.heads range.0 range.1 i.long (i.stand m h s),
      );
    }

pub bands-preserved : goal.bands-preserved
bands-preserved g c =
    let i = c.bands.invariant in let low = i.low in let t = c.bands-test.true in
    let range : (c.bands.lo ≤ c.if-n-lo.hi) × (c.if-n-lo.hi ≤ length c.args.degrees.now) = elim c.if-n-lo.branch [
      | then-n-lo w ↦ (let e = w.hi-is in (omega (arith, e, low), omega (arith, e)))
      | else-n-lo w ↦ (let e = w.hi-is in let f = w.if-n-lo.false in (omega (arith, e), omega (arith, e, f, low)))
    ] in record {
      long = c.spread_band.ensures.long ∙ i.long;
      low = range.1;
      spreads = λ m h s. (c.spread_band.ensures.after m c.bands.lo (ready m c.args.degrees.now _ _ c.args.next.now c.args.iw.now h
          c.bands.lo
          c.bands.next c.bands.iw (i.spreads m h s) c.if-n-lo.hi c.bands.heads range.0 range.1 i.long (i.stand m h s))).0;
      stand = λ m h s. (c.spread_band.ensures.after m c.bands.lo (ready m c.args.degrees.now _ _ c.args.next.now c.args.iw.now h c.bands.lo
          c.bands.next c.bands.iw (i.spreads m h s) c.if-n-lo.hi c.bands.heads range.0 range.1 i.long (i.stand m h s))).1;
    }

pub returns-clause-lists : goal.returns-clause-lists
returns-clause-lists g c = λ m h s.
    let i = c.bands.invariant in let size = rows_long m c.args.degrees.now _ _ c.args.next.now c.args.iw.now h in
    let low = i.low in let t = c.bands-test.false in
    let so = ends m c.args.degrees.now _ _ c.args.next.now c.args.iw.now h c.bands.lo c.bands.next c.bands.iw (i.spreads m h s)
    (omega (arith, t, size)) (omega (arith, low, size)) in
    (so.held.words, spread_lists_are m.n m.ap m.ai h.lower c.args.degrees.now c.bands.next c.bands.iw h.counts so)
