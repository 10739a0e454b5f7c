use Rattle.std.proofs.Common.{◌≡◌, ◌<◌, ◌^◌, ◌∙◌, ℕ, arith, rules, ap, drop, length, refl, sym, w64}
use Rattle.std.proofs.lemmas.Int.{ints, to_z_pos}
use Rattle.std.proofs.lemmas.List.{take_at, length-replicate}
use Rattle.amd_types.specs.declared.amd.Info.{Info}
use Rattle.amd_types.proofs.Fitting.{fits_below}
use Rattle.amd_engine.proofs.LentLists.{lent_empty}
use Rattle.amd_engine.proofs.amd_2.amd_2_from.Given.{Over}
use Rattle.amd_engine.proofs.amd_2.amd_2_from.Goals.{After-deref-2}
use Rattle.amd_engine.proofs.amd_2.amd_2_from.Goals as goal

pub overflow_cast-size : goal.overflow_cast-size
overflow_cast-size g c =
    let wide = c.requires.narrow.2 in let narrow = g.met.S.Signed.narrow in
    let small : length c.args.len.now < 2 ^ 63 = omega (arith, wide, narrow) in search rules

pub words-requires : goal.words-requires
words-requires g c = record {
  fits = (let wide = c.requires.narrow.2 in let narrow = g.met.S.Signed.narrow in
      let is = ap lib.IntN.nat_abs (to_z_pos w64 (length c.args.len.now) (omega (arith, wide, narrow))) in omega (arith, is, wide));
}

pub fill_lists-requires-clause-narrow : goal.fill_lists-requires-clause-narrow
fill_lists-requires-clause-narrow g c =
    let cell = c.requires.narrow.3 in omega (arith, cell)

pub fill_lists-requires-clause-room : goal.fill_lists-requires-clause-room
fill_lists-requires-clause-room g c = let room = c.in_ok-degree.ensures.capacity in (omega (arith, room), c.in_ok-lists.ensures)

pub eliminate_lent-told-requires-clause-some : goal.eliminate_lent-told-requires-clause-some
eliminate_lent-told-requires-clause-some g c = c.requires.some

pub eliminate_lent-told-requires-clause-narrow : goal.eliminate_lent-told-requires-clause-narrow
eliminate_lent-told-requires-clause-narrow g c = c.requires.narrow

pub eliminate_lent-told-requires-clause-marks : goal.eliminate_lent-told-requires-clause-marks
eliminate_lent-told-requires-clause-marks g c = c.requires.marks

pub eliminate_lent-told-requires-clause-flag : goal.eliminate_lent-told-requires-clause-flag
eliminate_lent-told-requires-clause-flag g c = c.requires.flag

pub eliminate_lent-told-requires-clause-can : goal.eliminate_lent-told-requires-clause-can
eliminate_lent-told-requires-clause-can g c = let r = c.requires in record {
  empty = lent_empty _ c.fill_lists.ensures.fresh refl
      (ap length (c.deref_mut-5.ensures.value ∙ c.in_ok-fronts.ensures) ∙ length-replicate (length c.args.len.now) _)
      (ap length (c.deref_mut-4.ensures.value ∙ c.in_ok-nv.ensures) ∙ length-replicate (length c.args.len.now) _)
      c.deref_mut.ensures.value c.deref_mut-3.ensures.value c.deref_mut-2.ensures.value c.deref_mut-6.ensures.value
      c.deref_mut-7.ensures.value;
  laid = r.laid;
  room = r.room;
  graph = r.graph;
}

-- the order and its inverse stand in the heads and in the counters
record AreListed (g : Over) (c : After-deref-2 g) : Type 0 where
  head : c.deref.result.now ≡ c.eliminate_lent-told.new.head
  w : c.deref-2.result.now ≡ c.eliminate_lent-told.new.w
  rows : length c.eliminate_lent-told.new.head ≡ length c.args.len.now

are_listed : (g : Over) (c : After-deref-2 g) → AreListed g c
are_listed g c =
    let n : ℕ = length c.args.len.now in let told = c.eliminate_lent-told in let new = told.new in let l = c.fill_lists.new.lists in
    let head = told.auto.head ∙ ap length c.deref_mut-2.ensures.value in let w = told.auto.w ∙ ap length c.deref_mut-3.ensures.value in
    record {
      head = c.deref.ensures.value ∙ take_at new.head (drop (length new.head) l.head.items) l.head.len (head ∙ sym l.head.ok.0);
      w = c.deref-2.ensures.value ∙ take_at new.w (drop (length new.w) l.w.items) l.w.len (w ∙ sym l.w.ok.0);
      rows = head ∙ ap length c.fill_lists.ensures.fresh.heads.0 ∙ length-replicate n n;
    }

pub finish-requires-clause-room : goal.finish-requires-clause-room
finish-requires-clause-room g c =
    let b = are_listed g (goal.at.finish-requires-clause-room g c).After-deref-2 in let rows = ap length b.head ∙ b.rows in (
      ap length c.deref_mut-8.ensures.value ∙ c.in_ok-p.ensures ∙ sym rows,
      ap length c.deref_mut-9.ensures.value ∙ c.in_ok-p_inv.ensures ∙ sym rows,
    )

pub finish-requires-clause-inverse : goal.finish-requires-clause-inverse
finish-requires-clause-inverse g c =
    let b = are_listed g (goal.at.finish-requires-clause-inverse g c).After-deref-2 in let w = c.requires.graph in
    rw (b.head, b.w, b.rows) (c.eliminate_lent-told.ensures.orders w.0 w.1 c.args.info.now w.2).answer.inverse

pub finish-requires-clause-fits : goal.finish-requires-clause-fits
finish-requires-clause-fits g c = λ k l. fits_below g.I.Index.fits g.met.I.Index.zero_fits g.met.I.Index.between k
    (g.I.Index.value c.args.n) c.requires.fits
    (let b = are_listed g (goal.at.finish-requires-clause-fits g c).After-deref-2 in let rows = ap length b.head ∙ b.rows in
    let size = c.requires.size in omega (arith, ints, l, rows, size))

pub returns-clause-orders : goal.returns-clause-orders
returns-clause-orders g c = λ graph lists lays.
    let b = are_listed g (goal.at.returns-clause-orders g c).After-deref-2 in let order = c.finish.ensures.order in
    let told = c.eliminate_lent-told in let new = c.finish.new in
    let p_is = take_at new.p (drop (length new.p) c.in_ok-p.p.items) c.in_ok-p.p.len
    (c.finish.auto.p ∙ ap length c.deref_mut-8.ensures.value ∙ sym c.in_ok-p.p.ok.0) in
    let q_is = take_at new.p_inv (drop (length new.p_inv) c.in_ok-p_inv.p_inv.items) c.in_ok-p_inv.p_inv.len
    (c.finish.auto.p_inv ∙ ap length c.deref_mut-9.ensures.value ∙ sym c.in_ok-p_inv.p_inv.ok.0) in
    let nv_is = take_at told.new.nv (drop (length told.new.nv) c.in_ok-nv.nv.items) c.in_ok-nv.nv.len
    (told.auto.nv ∙ ap length c.deref_mut-4.ensures.value ∙ sym c.in_ok-nv.nv.ok.0) in
    let e_len_is = take_at told.new.e_len (drop (length told.new.e_len) c.in_ok-fronts.fronts.items) c.in_ok-fronts.fronts.len
    (told.auto.e_len ∙ ap length c.deref_mut-5.ensures.value ∙ sym c.in_ok-fronts.fronts.ok.0) in
    rw (p_is, q_is, nv_is, e_len_is, order.0, order.1, c.finish.ensures.tells, b.head, b.w, c.pe-1.given.1.1 (sym told.ensures.loans.0))
    (told.ensures.orders graph lists c.args.info.now lays)

pub returns-clause-compactions : goal.returns-clause-compactions
returns-clause-compactions g c =
    let packs = c.eliminate_lent-told.ensures.packs in let tells = ap (λ (info : Info). info.n_cmp_a) c.finish.ensures.tells in
    omega (arith, tells, packs)

pub returns-clause-refused : goal.returns-clause-refused
returns-clause-refused g c = tt
