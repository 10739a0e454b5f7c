-- the goals of blocks::block_starts.
use Rattle.std.proofs.Common.{◌≡◌, ◌<◌, ◌≤◌, ◌+◌, ◌-◌, ℕ, ℤ, List, pos, ap, sym, ◌∙◌, subst, arith, length, map}
use Rattle.std.specs.Prelude.{slice_index, unsigned_abs}
use Rattle.std.proofs.Math.ListN.{set}
use Rattle.std.proofs.lemmas.List.{length-map}
use Rattle.amd_model.specs.State.{Home}
use Rattle.amd_words.specs.Words.{size_of}
use Rattle.amd_listing.specs.Blocks.{AreElements, BeginWith}
use Rattle.amd_listing.proofs.BlockStarts.{AreStarted, element_small, elements_fit, started_none, started_small, started_more}
use Rattle.amd_listing.proofs.BlockStarts.{started_all, size_read, begun_at}
use Rattle.amd_listing.proofs.BlockStarts.{PivotsPut, pivots_none, element_sized, pivots_more, pivots_all}
use Rattle.amd_listing.proofs.blocks.block_starts.Goals as goal

pub places-init : goal.places-init
places-init g c = record {
  room = ap length (λ i. c.args.starts.now);
  started = λ home es a b. started_none es c.args.nv.now c.args.starts.now;
  put = λ home es a b. pivots_none es c.args.nv.now (map pos c.args.p.now) (map pos c.args.p_inv.now);
}

pub cell_at-e-requires : goal.cell_at-e-requires
cell_at-e-requires g c =
    let h = c.requires.blocks in let n : ℕ = length c.args.nv.now in
    let most = elements_fit n h.0 h.1 c.args.nv.now h.2 in let long = h.3.long in let room = c.requires.lengths.0 in
    let test = c.places-test.true in omega (arith, most, long, room, test)

pub put_cell-requires-clause-inside : goal.put_cell-requires-clause-inside
put_cell-requires-clause-inside g c =
    let h = c.requires.blocks in let n : ℕ = length c.args.nv.now in let long = h.3.long in let test = c.places-test.true in
    let is = begun_at c.args.elements.now c.args.count h.1 h.3 c.places.k c.cell_at-e.result test c.cell_at-e.ensures.is in
    let small = element_small n h.0 h.1 c.args.nv.now h.2 c.places.k (omega (arith, long, test)) in
    let room = c.places.auto.starts in let rooms = c.requires.lengths.1 in omega (arith, is, small, room, rooms)

pub put_cell-requires-clause-fits : goal.put_cell-requires-clause-fits
put_cell-requires-clause-fits g c =
    let h = c.requires.blocks in let n : ℕ = length c.args.nv.now in let long = h.3.long in let test = c.places-test.true in
    let small = started_small n h.0 h.1 c.args.nv.now h.2 c.places.k c.places.starts c.places.total
    (c.places.invariant.started h.0 h.1 h.2 h.3) (omega (arith, long, test)) in
    let narrow = c.requires.narrow in omega (arith, small, narrow)

pub row_at-total-requires-clause-inside : goal.row_at-total-requires-clause-inside
row_at-total-requires-clause-inside g c =
    let h = c.requires.blocks in let n : ℕ = length c.args.nv.now in let long = h.3.long in let test = c.places-test.true in
    let is = begun_at c.args.elements.now c.args.count h.1 h.3 c.places.k c.cell_at-e.result test c.cell_at-e.ensures.is in
    let small = element_small n h.0 h.1 c.args.nv.now h.2 c.places.k (omega (arith, long, test)) in omega (arith, is, small)

pub row_at-total-requires-clause-plain : goal.row_at-total-requires-clause-plain
row_at-total-requires-clause-plain g c =
    let q = c.requires.counts c.cell_at-e.result in q ∙ sym (ap (λ z. pos (unsigned_abs z)) q)

pub overflow_add-total : goal.overflow_add-total
overflow_add-total g c =
    let h = c.requires.blocks in let n : ℕ = length c.args.nv.now in let long = h.3.long in let test = c.places-test.true in
    let nv : List ℤ = c.args.nv.now in
    let is = begun_at c.args.elements.now c.args.count h.1 h.3 c.places.k c.cell_at-e.result test c.cell_at-e.ensures.is in
    let read = size_read nv c.cell_at-e.result (slice_index h.1 c.places.k) c.row_at-total.result is
    (c.requires.counts c.cell_at-e.result) c.row_at-total.ensures in
    let small = started_small n h.0 h.1 nv h.2 c.places.k c.places.starts c.places.total (c.places.invariant.started h.0 h.1 h.2 h.3)
    (omega (arith, long, test)) in
    let narrow = c.requires.narrow in let most = g.met.U.Unsigned.narrow in omega (arith, small, narrow, most, read)

-- a row is put where the block ends
module _ (nv : List ℤ) (elements : List ℕ) (count : ℕ) (home : ℕ → Home) (es : List ℕ) (a : AreElements (length nv) home es nv)
    (b : BeginWith elements count es) (k : ℕ) (starts : List ℕ) (total : ℕ) (s : AreStarted k es nv starts total) (test : k < count)
    (e rows : ℕ) (e_is : e ≡ slice_index es k) (read : rows ≡ size_of nv (slice_index es k)) where
  within : total + rows ≤ length nv
  within = let l = b.long in let small = started_small (length nv) home es nv a k starts total s (omega (arith, l, test)) in
      omega (arith, small, read)

  some : 0 < rows
  some = let l = b.long in let sized = element_sized (length nv) home es nv a k (omega (arith, l, test)) in omega (arith, sized, read)

  inside : e < length nv
  inside = let l = b.long in let small = element_small (length nv) home es nv a k (omega (arith, l, test)) in omega (arith, small, e_is)

  one_more : (p q : List ℤ) → length p ≡ length nv → length q ≡ length nv → PivotsPut k es nv total p q →
      PivotsPut (k + 1) es nv (total + rows) (set p (total + rows - 1) (pos e)) (set q e (pos (total + rows - 1)))
  one_more p q p_long q_long put =
      let l = b.long in let fit = within in let more = some in let m : ℕ = total + rows - 1 in
      subst (λ x. PivotsPut (k + 1) es nv (total + rows) (set p m (pos x)) (set q x (pos m))) (sym e_is)
      (subst (λ r. PivotsPut (k + 1) es nv (total + r) (set p m (pos (slice_index es k))) (set q (slice_index es k) (pos m))) (sym read)
      (pivots_more (length nv) home es nv a k total p q s.sum put (omega (arith, l, test)) p_long q_long m (omega (arith, more, read))
      (omega (arith, fit, more))))

pub put_listed-requires-clause-inside : goal.put_listed-requires-clause-inside
put_listed-requires-clause-inside g c =
    let h = c.requires.blocks in let nv : List ℤ = c.args.nv.now in let test = c.places-test.true in
    let e_is = begun_at c.args.elements.now c.args.count h.1 h.3 c.places.k c.cell_at-e.result test c.cell_at-e.ensures.is in
    let read = size_read nv c.cell_at-e.result (slice_index h.1 c.places.k) c.row_at-total.result e_is
    (c.requires.counts c.cell_at-e.result) c.row_at-total.ensures in
    let s = c.places.invariant.started h.0 h.1 h.2 h.3 in let room = c.requires.more_lengths in
    let a = c.places.auto.p in let b = c.places.auto.p_inv in
    let fit = within nv c.args.elements.now c.args.count h.0 h.1 h.2 h.3 c.places.k c.places.starts c.places.total s test
    c.cell_at-e.result c.row_at-total.result e_is read in
    let more = some nv c.args.elements.now c.args.count h.0 h.1 h.2 h.3 c.places.k c.places.starts c.places.total s test
    c.cell_at-e.result c.row_at-total.result e_is read in
    let small = inside nv c.args.elements.now c.args.count h.0 h.1 h.2 h.3 c.places.k c.places.starts c.places.total s test
    c.cell_at-e.result c.row_at-total.result e_is read in
    (omega (arith, small, room, b), omega (arith, fit, more, room, a))

pub put_listed-requires-clause-fits : goal.put_listed-requires-clause-fits
put_listed-requires-clause-fits g c =
    let h = c.requires.blocks in let nv : List ℤ = c.args.nv.now in let test = c.places-test.true in
    let e_is = begun_at c.args.elements.now c.args.count h.1 h.3 c.places.k c.cell_at-e.result test c.cell_at-e.ensures.is in
    let read = size_read nv c.cell_at-e.result (slice_index h.1 c.places.k) c.row_at-total.result e_is
    (c.requires.counts c.cell_at-e.result) c.row_at-total.ensures in
    let s = c.places.invariant.started h.0 h.1 h.2 h.3 in
    let fit = within nv c.args.elements.now c.args.count h.0 h.1 h.2 h.3 c.places.k c.places.starts c.places.total s test
    c.cell_at-e.result c.row_at-total.result e_is read in
    let more = some nv c.args.elements.now c.args.count h.0 h.1 h.2 h.3 c.places.k c.places.starts c.places.total s test
    c.cell_at-e.result c.row_at-total.result e_is read in
    let small = inside nv c.args.elements.now c.args.count h.0 h.1 h.2 h.3 c.places.k c.places.starts c.places.total s test
    c.cell_at-e.result c.row_at-total.result e_is read in
    let narrow = c.requires.narrow in (omega (arith, small, narrow), omega (arith, fit, more, narrow))

pub overflow_sub-total : goal.overflow_sub-total
overflow_sub-total g c =
    let h = c.requires.blocks in let nv : List ℤ = c.args.nv.now in let test = c.places-test.true in
    let e_is = begun_at c.args.elements.now c.args.count h.1 h.3 c.places.k c.cell_at-e.result test c.cell_at-e.ensures.is in
    let read = size_read nv c.cell_at-e.result (slice_index h.1 c.places.k) c.row_at-total.result e_is
    (c.requires.counts c.cell_at-e.result) c.row_at-total.ensures in
    let s = c.places.invariant.started h.0 h.1 h.2 h.3 in
    let more = some nv c.args.elements.now c.args.count h.0 h.1 h.2 h.3 c.places.k c.places.starts c.places.total s test
    c.cell_at-e.result c.row_at-total.result e_is read in omega (arith, more)

pub places-preserved : goal.places-preserved
places-preserved g c =
    let nv : List ℤ = c.args.nv.now in let n : ℕ = length nv in let test = c.places-test.true in
    let p : List ℤ = map pos c.places.p in let q : List ℤ = map pos c.places.p_inv in
    let rooms = c.requires.more_lengths in
    let p_long : length p ≡ n = (let a = c.places.auto.p in let m : length p ≡ length c.places.p = simp length-map in
    omega (arith, a, m, rooms)) in
    let q_long : length q ≡ n = (let a = c.places.auto.p_inv in let m : length q ≡ length c.places.p_inv = simp length-map in
    omega (arith, a, m, rooms)) in
    let room = c.put_cell.auto.cells ∙ c.places.invariant.room in
    record {
      room = room;
      started = λ home es a b. (
          let long = b.long in let is = begun_at c.args.elements.now c.args.count es b c.places.k c.cell_at-e.result test
          c.cell_at-e.ensures.is in
          let read = size_read nv c.cell_at-e.result (slice_index es c.places.k) c.row_at-total.result is
          (c.requires.counts c.cell_at-e.result) c.row_at-total.ensures in
          let written : c.put_cell.new.cells ≡ set c.places.starts (slice_index es c.places.k) c.places.total =
          c.put_cell.ensures ∙ ap (λ e. set c.places.starts e c.places.total) is in
          subst (λ xs. AreStarted (c.places.k + 1) es nv xs (c.places.total + c.row_at-total.result)) (sym written)
          (subst (λ m. AreStarted (c.places.k + 1) es nv (set c.places.starts (slice_index es c.places.k) c.places.total)
          (c.places.total + m)) (sym read)
          (started_more n home es nv a c.places.k c.places.starts c.places.total (c.places.invariant.started home es a b)
          (omega (arith, long, test)) (c.places.invariant.room ∙ c.requires.lengths.1))));
      put = λ home es a b. (
          let is = begun_at c.args.elements.now c.args.count es b c.places.k c.cell_at-e.result test c.cell_at-e.ensures.is in
          let read = size_read nv c.cell_at-e.result (slice_index es c.places.k) c.row_at-total.result is
          (c.requires.counts c.cell_at-e.result) c.row_at-total.ensures in
          rw (c.put_listed.ensures.listed, c.put_listed.ensures.inverse)
          (one_more nv c.args.elements.now c.args.count home es a b c.places.k c.places.starts c.places.total
          (c.places.invariant.started home es a b) test c.cell_at-e.result c.row_at-total.result is read p q p_long q_long
          (c.places.invariant.put home es a b)));
    }

pub returns-clause-starts : goal.returns-clause-starts
returns-clause-starts g c = λ home es a b.
    let nv : List ℤ = c.args.nv.now in let long = b.long in
    let end = c.places.auto.k-end in let test = c.places-test.false in
    started_all (length nv) home es nv a c.places.k c.places.starts c.places.total (c.places.invariant.started home es a b)
    (omega (arith, long, end, test)) (c.places.invariant.room ∙ c.requires.lengths.1)

pub returns-clause-pivots : goal.returns-clause-pivots
returns-clause-pivots g c =
    let h = c.requires.blocks in let nv : List ℤ = c.args.nv.now in let es : List ℕ = h.1 in let long = h.3.long in
    let end = c.places.auto.k-end in let test = c.places-test.false in
    let all : c.places.k ≡ length es = omega (arith, long, end, test) in
    let starts = started_all (length nv) h.0 es nv h.2 c.places.k c.places.starts c.places.total
    (c.places.invariant.started h.0 es h.2 h.3) all (c.places.invariant.room ∙ c.requires.lengths.1) in
    pivots_all h.0 es nv c.places.starts c.places.total (map pos c.places.p) (map pos c.places.p_inv) h.2 starts
    (subst (λ k. PivotsPut k es nv c.places.total (map pos c.places.p) (map pos c.places.p_inv)) all
    (c.places.invariant.put h.0 es h.2 h.3))
