use Rattle.std.proofs.Common.{arith, ℕ, map, length, drop, ap, sym, ◌≡◌, ◌∙◌}
use Rattle.std.proofs.lemmas.Int.{ints}
use Rattle.std.proofs.lemmas.List.{take_at}
use Rattle.amd_edges.proofs.Forms.{pointer_read}
use Rattle.amd_types.proofs.Fitting.{fits_below}
use Rattle.amd_engine.proofs.LentPattern.{degrees_fit}
use Rattle.amd_engine.proofs.amd_1.order_in.Given.{Over}
use Rattle.amd_engine.proofs.amd_1.order_in.Goals.{After-deref_mut, After-deref_mut-2}
use Rattle.amd_engine.proofs.amd_1.order_in.Goals as goal

-- there is a place for each row in the lent lists of the result
long : (g : Over) (c : After-deref_mut g) → length c.deref_mut.result.now ≡ length c.args.len.now
long g c = ap length c.deref_mut.ensures.value ∙ c.in_ok-p.ensures

long_inverse : (g : Over) (c : After-deref_mut-2 g) → length c.deref_mut-2.result.now ≡ length c.args.len.now
long_inverse g c = ap length c.deref_mut-2.ensures.value ∙ c.in_ok-p_inv.ensures

pub count_at-requires-clause-fits : goal.count_at-requires-clause-fits
count_at-requires-clause-fits g c = (pointer_read g.I.Index.value c.args.a_p.now c.args.a_i.now (length c.args.len.now) c.requires.form
    (length c.args.len.now) (omega arith) (omega (arith, c.well_formed))).1

pub memory_for-requires : goal.memory_for-requires
memory_for-requires g c = let n : ℕ = length c.args.len.now in let wide = c.requires.narrow.3 in record {
  fits = degrees_fit n (map g.I.Index.value c.args.a_p.now) (map g.I.Index.value c.args.a_i.now) c.args.len.now g.U.Unsigned.MOST
      c.requires.degrees (omega (arith, wide));
}

pub order_within-requires-clause-places : goal.order_within-requires-clause-places
order_within-requires-clause-places g c = let at = goal.at.order_within-requires-clause-places g c in
    long_inverse g at.After-deref_mut-2 ∙ sym (long g at.After-deref_mut)

pub order_within-requires-clause-some : goal.order_within-requires-clause-some
order_within-requires-clause-some g c = rw (long g (goal.at.order_within-requires-clause-some g c).After-deref_mut) c.requires.some

pub order_within-requires-clause-fits : goal.order_within-requires-clause-fits
order_within-requires-clause-fits g c = λ k l. fits_below g.I.Index.fits g.met.I.Index.zero_fits g.met.I.Index.between k
    (g.I.Index.value c.args.n) c.requires.fits
    (let size = c.requires.size in let same = long g (goal.at.order_within-requires-clause-fits g c).After-deref_mut in
    omega (arith, ints, l, same, size))

pub order_within-requires-clause-form : goal.order_within-requires-clause-form
order_within-requires-clause-form g c = rw (long g (goal.at.order_within-requires-clause-form g c).After-deref_mut) c.requires.form

pub order_within-requires-clause-sorted : goal.order_within-requires-clause-sorted
order_within-requires-clause-sorted g c = rw (long g (goal.at.order_within-requires-clause-sorted g c).After-deref_mut) c.requires.sorted

pub order_within-requires-clause-degrees : goal.order_within-requires-clause-degrees
order_within-requires-clause-degrees g c =
    rw (long g (goal.at.order_within-requires-clause-degrees g c).After-deref_mut, c.in_ok-memory.ensures.degrees) c.requires.degrees

pub order_within-requires-clause-words : goal.order_within-requires-clause-words
order_within-requires-clause-words g c = rw (long g (goal.at.order_within-requires-clause-words g c).After-deref_mut) c.requires.room

pub order_within-requires-clause-room : goal.order_within-requires-clause-room
order_within-requires-clause-room g c =
    rw (long g (goal.at.order_within-requires-clause-room g c).After-deref_mut) c.in_ok-memory.ensures.room

pub order_within-requires-clause-narrow : goal.order_within-requires-clause-narrow
order_within-requires-clause-narrow g c = rw (long g (goal.at.order_within-requires-clause-narrow g c).After-deref_mut) c.requires.narrow

pub order_within-requires-clause-pointers : goal.order_within-requires-clause-pointers
order_within-requires-clause-pointers g c =
    rw (long g (goal.at.order_within-requires-clause-pointers g c).After-deref_mut)
    (let count = c.count_at.ensures.count in omega (arith, count))

pub order_within-requires-clause-flag : goal.order_within-requires-clause-flag
order_within-requires-clause-flag g c = c.requires.flag

pub order_within-requires-clause-marks : goal.order_within-requires-clause-marks
order_within-requires-clause-marks g c = rw (long g (goal.at.order_within-requires-clause-marks g c).After-deref_mut) c.requires.marks

pub returns-clause-orders : goal.returns-clause-orders
returns-clause-orders g c =
    let at = goal.at.returns-clause-orders g c in let same = long g at.After-deref_mut in let new = c.order_within.new in
    let p_is = take_at new.p (drop (length new.p) c.in_ok-p.p.items) c.in_ok-p.p.len
    (c.order_within.auto.p ∙ ap length c.deref_mut.ensures.value ∙ sym c.in_ok-p.p.ok.0) in
    let q_is = take_at new.p_inv (drop (length new.p_inv) c.in_ok-p_inv.p_inv.items) c.in_ok-p_inv.p_inv.len
    (c.order_within.auto.p_inv ∙ ap length c.deref_mut-2.ensures.value ∙ sym c.in_ok-p_inv.p_inv.ok.0) in
    rw (p_is, q_is) (rw same at c.order_within.ensures.orders)

pub returns-clause-compactions : goal.returns-clause-compactions
returns-clause-compactions g c =
    rw (long g (goal.at.returns-clause-compactions g c).After-deref_mut) at c.order_within.ensures.compactions

pub returns-clause-refused : goal.returns-clause-refused
returns-clause-refused g c = tt
