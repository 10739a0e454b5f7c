-- The lists keep their room for a transpose, which has no more entries than the matrix; and an ordering of it is one of the matrix.
use Rattle.std.proofs.Common.{ℤ, List, length, map, le_refl}
use Rattle.std.specs.Prelude.{slice_index}
use Rattle.std.specs.Option.{option_copied}
use Rattle.std.proofs.lemmas.Result.{IfOk-from_err}
use Rattle.amd_types.specs.Naturals.{naturals}
use Rattle.amd.proofs.Fewer.{cells_hold, lent_entries, still_few, still_wide}
use Rattle.amd.proofs.KeptLists.{refused_stay, stay}
use Rattle.amd.proofs.Orderings.{orders_turned}
use Rattle.amd.proofs.OrderedColumns.{checked_fits, lent_clean, ok_gives}
use Rattle.amd.proofs.once.order_in.Goals as goal

pub row_form_with-requires-clause-names : goal.row_form_with-requires-clause-names
row_form_with-requires-clause-names g c =
    checked_fits g.J.Index.value g.J.Index.fits _ c.from_count.result c.from_count.ensures c.if-is_none.ensures

pub order_counted-requires-2-clause-given : goal.order_counted-requires-2-clause-given
order_counted-requires-2-clause-given g c =
    let given = c.requires.given in
    let is = lent_clean (map g.J.Index.value) c.deref.ensures.value c.deref-2.ensures.value c.in_ok-c_p.ensures.clean in record {
      places = given.places;
      some = given.some;
      form = is.form;
      sorted = λ _. is.sorted;
      marks = given.marks;
    }

pub returns-clause-orders : goal.returns-clause-orders
returns-clause-orders g c =
    let value = g.I.Index.value in let n = length c.args.p.now in let new = c.order_counted-2.new in
    let a_p : List ℤ = map value c.args.matrix.now.a_p.now in let a_i : List ℤ = map value c.args.matrix.now.a_i.now in
    let b_p : List ℤ = map g.J.Index.value c.deref.result.now in let b_i : List ℤ = map g.J.Index.value c.deref-2.result.now in
    rw c.if-not-matrix.false (ok_gives c.order_counted-2.result (λ info ordered.
    orders_turned (option_copied c.args.request.now.hold) n c.args.request.now.control.now a_p a_i b_p b_i (map value new.p)
    (map value new.p_inv) info
    (lent_clean (map g.J.Index.value) c.deref.ensures.value c.deref-2.ensures.value c.in_ok-c_p.ensures.clean) ordered)
    c.order_counted-2.ensures.orders)

pub order_counted-requires-clause-narrow : goal.order_counted-requires-clause-narrow
order_counted-requires-clause-narrow g c = c.requires.narrow

pub order_counted-requires-clause-few : goal.order_counted-requires-clause-few
order_counted-requires-clause-few g c = c.requires.few

pub order_counted-requires-clause-fits : goal.order_counted-requires-clause-fits
order_counted-requires-clause-fits g c = c.requires.fits

pub order_counted-requires-2-clause-fits : goal.order_counted-requires-2-clause-fits
order_counted-requires-2-clause-fits g c = c.requires.fits

pub returns-in_err-memory-clause-orders : goal.returns-in_err-memory-clause-orders
returns-in_err-memory-clause-orders g c = IfOk-from_err c.from_residual.result _ c.from_residual.ensures.0

pub returns-in_err-memory-clause-kept : goal.returns-in_err-memory-clause-kept
returns-in_err-memory-clause-kept g c = refused_stay c.from_residual.result c.args.p.now c.args.p_inv.now c.from_residual.ensures.0

pub order_counted-requires-clause-given : goal.order_counted-requires-clause-given
order_counted-requires-clause-given g c = rw c.if-not-matrix.true at c.requires.given

pub order_counted-requires-clause-room : goal.order_counted-requires-clause-room
order_counted-requires-clause-room g c = c.in_ok-memory.ensures

pub returns-then-not-matrix-clause-orders : goal.returns-then-not-matrix-clause-orders
returns-then-not-matrix-clause-orders g c = rw c.if-not-matrix.true c.order_counted.ensures.orders

pub returns-then-not-matrix-clause-kept : goal.returns-then-not-matrix-clause-kept
returns-then-not-matrix-clause-kept g c = c.order_counted.ensures.kept

pub returns-then-is_none-clause-orders : goal.returns-then-is_none-clause-orders
returns-then-is_none-clause-orders g c = tt

pub returns-then-is_none-clause-kept : goal.returns-then-is_none-clause-kept
returns-then-is_none-clause-kept g c = stay c.args.p.now c.args.p_inv.now

pub row_form_with-requires-clause-form : goal.row_form_with-requires-clause-form
row_form_with-requires-clause-form g c = c.requires.given.form

pub row_form_with-requires-clause-scratch : goal.row_form_with-requires-clause-scratch
row_form_with-requires-clause-scratch g c =
    let beside = c.in_ok-memory.ensures.beside in (beside.lists.w, beside.next)

pub row_form_with-requires-clause-fits : goal.row_form_with-requires-clause-fits
row_form_with-requires-clause-fits g c =
    let n = length c.args.p.now in let a_p : List ℤ = map g.I.Index.value c.args.matrix.now.a_p.now in
    cells_hold g.S.Signed.MOST g.P.Signed.MOST g.U.Unsigned.MOST n (slice_index (naturals a_p) n) c.requires.narrow

pub returns-in_err-c_p-clause-orders : goal.returns-in_err-c_p-clause-orders
returns-in_err-c_p-clause-orders g c = IfOk-from_err c.from_residual-in_err-c_p.result _ c.from_residual-in_err-c_p.ensures.0

pub returns-in_err-c_p-clause-kept : goal.returns-in_err-c_p-clause-kept
returns-in_err-c_p-clause-kept g c =
    refused_stay c.from_residual-in_err-c_p.result c.args.p.now c.args.p_inv.now c.from_residual-in_err-c_p.ensures.0

pub order_counted-requires-2-clause-room : goal.order_counted-requires-2-clause-room
order_counted-requires-2-clause-room g c =
    let has = c.in_ok-memory.ensures in let beside = has.beside in let lists = beside.lists in
    let same = c.in_ok-c_p.ensures.scratch in record {
      beside = record {
        words = beside.words;
        next = rw same.1 beside.next;
        pe = beside.pe;
        len = beside.len;
        lists = record { w = rw same.0 lists.w; head = lists.head; sides = lists.sides; hash = lists.hash };
      };
      nv = has.nv;
      e_len = has.e_len;
    }

pub order_counted-requires-2-clause-narrow : goal.order_counted-requires-2-clause-narrow
order_counted-requires-2-clause-narrow g c =
    let n = length c.args.p.now in let made = c.in_ok-c_p.ensures in let b_p : List ℤ = map g.J.Index.value c.deref.result.now in
    let a_p : List ℤ = map g.I.Index.value c.args.matrix.now.a_p.now in let a_i : List ℤ = map g.I.Index.value c.args.matrix.now.a_i.now in
    let less = lent_entries g.J.Index.value n (slice_index (naturals a_p) n) a_p a_i _ _ c.deref.result.now c.deref.ensures.value
    made.clean made.few in
    still_wide g.S.Signed.MOST g.P.Signed.MOST g.U.Unsigned.MOST n (slice_index (naturals a_p) n) (slice_index (naturals b_p) n)
    c.requires.narrow less

pub order_counted-requires-2-clause-few : goal.order_counted-requires-2-clause-few
order_counted-requires-2-clause-few g c =
    let n = length c.args.p.now in let made = c.in_ok-c_p.ensures in let b_p : List ℤ = map g.J.Index.value c.deref.result.now in
    let a_p : List ℤ = map g.I.Index.value c.args.matrix.now.a_p.now in let a_i : List ℤ = map g.I.Index.value c.args.matrix.now.a_i.now in
    let less = lent_entries g.J.Index.value n (slice_index (naturals a_p) n) a_p a_i _ _ c.deref.result.now c.deref.ensures.value
    made.clean made.few in
    still_few n (slice_index (naturals a_p) n) n (slice_index (naturals b_p) n) c.requires.few (le_refl n) less

pub returns-clause-kept : goal.returns-clause-kept
returns-clause-kept g c = c.order_counted-2.ensures.kept
