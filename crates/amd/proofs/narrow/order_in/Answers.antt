-- A jumbled matrix is ordered by its transpose, which has as many entries at most and is clean.
use Rattle.std.proofs.Common.{ℤ, List, ap, length, refl, arith}
use Rattle.std.specs.Option.{option_copied}
use Rattle.std.proofs.lemmas.Result.{err_from_is_err_and}
use Rattle.std.proofs.lemmas.Int.{ints}
use Rattle.std.proofs.lemmas.List.{length-map}
use Rattle.amd_edges.proofs.Forms.{pointer_within}
use Rattle.amd_engine.specs.InPlace.{values}
use Rattle.amd.proofs.Orderings.{orders_turned}
use Rattle.amd.proofs.OrderedColumns.{lent_clean, ok_gives}
use Rattle.amd.proofs.SortedColumns.{sorted_given, sorted_orders}
use Rattle.amd.proofs.narrow.order_in.Goals as goal

pub returns-in_err-memory-clause-orders : goal.returns-in_err-memory-clause-orders
returns-in_err-memory-clause-orders g c =
    let p = err_from_is_err_and c.from_residual.result c.from_residual.ensures.1 in rw p.1 tt

pub returns-in_err-memory-clause-kept : goal.returns-in_err-memory-clause-kept
returns-in_err-memory-clause-kept g c =
    let p = err_from_is_err_and c.from_residual.result c.from_residual.ensures.1 in
    rw p.1 (refl {a = c.args.p.now}, refl {a = c.args.p_inv.now})

pub order_counted-requires-clause-given : goal.order_counted-requires-clause-given
order_counted-requires-clause-given g c =
    let m = c.args.matrix.now in
    sorted_given (option_copied c.args.request.now.hold) m.jumbled (values m.a_p.now) (values m.a_i.now) (length c.args.p.now)
    (length c.args.p_inv.now) c.if-not-matrix.true c.requires.given

pub order_counted-requires-clause-room : goal.order_counted-requires-clause-room
order_counted-requires-clause-room g c = c.in_ok-memory.ensures

pub order_counted-requires-clause-narrow : goal.order_counted-requires-clause-narrow
order_counted-requires-clause-narrow g c = c.requires.narrow

pub returns-then-not-matrix-clause-orders : goal.returns-then-not-matrix-clause-orders
returns-then-not-matrix-clause-orders g c =
    let m = c.args.matrix.now in let new = c.order_counted.new in
    ok_gives c.order_counted.result (λ info. sorted_orders (option_copied c.args.request.now.hold) m.jumbled (length c.args.p.now)
    c.args.request.now.control.now (values m.a_p.now) (values m.a_i.now) (values new.p) (values new.p_inv) info c.if-not-matrix.true)
    c.order_counted.ensures.orders

pub returns-then-not-matrix-clause-kept : goal.returns-then-not-matrix-clause-kept
returns-then-not-matrix-clause-kept g c = c.order_counted.ensures.kept

pub row_form_with-requires-clause-form : goal.row_form_with-requires-clause-form
row_form_with-requires-clause-form g c = c.requires.given.form

pub row_form_with-requires-clause-scratch : goal.row_form_with-requires-clause-scratch
row_form_with-requires-clause-scratch g c = (c.in_ok-memory.ensures.lists.w, c.in_ok-memory.ensures.next)

pub row_form_with-requires-clause-fits : goal.row_form_with-requires-clause-fits
row_form_with-requires-clause-fits g c = let wide = c.requires.narrow.1 in (omega (arith, wide), omega (arith, wide))

pub row_form_with-requires-clause-names : goal.row_form_with-requires-clause-names
row_form_with-requires-clause-names g c = let rows = c.requires.narrow.2 in record { sfits = omega (arith, ints, rows) }

pub returns-in_err-c_p-clause-orders : goal.returns-in_err-c_p-clause-orders
returns-in_err-c_p-clause-orders g c =
    let p = err_from_is_err_and c.from_residual-in_err-c_p.result c.from_residual-in_err-c_p.ensures.1 in rw p.1 tt

pub returns-in_err-c_p-clause-kept : goal.returns-in_err-c_p-clause-kept
returns-in_err-c_p-clause-kept g c =
    let p = err_from_is_err_and c.from_residual-in_err-c_p.result c.from_residual-in_err-c_p.ensures.1 in
    rw p.1 (refl {a = c.args.p.now}, refl {a = c.args.p_inv.now})

pub order_counted-requires-2-clause-given : goal.order_counted-requires-2-clause-given
order_counted-requires-2-clause-given g c =
    let given = c.requires.given in
    let is = lent_clean values c.deref.ensures.value c.deref-2.ensures.value c.in_ok-c_p.ensures.clean in record {
      places = given.places;
      some = given.some;
      form = is.form;
      sorted = λ _. is.sorted;
      marks = given.marks;
    }

pub order_counted-requires-2-clause-room : goal.order_counted-requires-2-clause-room
order_counted-requires-2-clause-room g c =
    let has = c.in_ok-memory.ensures in let lists = has.lists in let kept = c.in_ok-c_p.ensures.scratch in record {
      words = has.words;
      next = rw kept.1 has.next;
      pe = has.pe;
      len = has.len;
      lists = record { w = rw kept.0 lists.w; head = lists.head; sides = lists.sides; hash = lists.hash };
    }

pub order_counted-requires-2-clause-narrow : goal.order_counted-requires-2-clause-narrow
order_counted-requires-2-clause-narrow g c =
    let n = length c.args.p.now in let wide = c.requires.narrow in let a = wide.0 in let b = wide.1 in let rows = wide.2 in
    let is = lent_clean values c.deref.ensures.value c.deref-2.ensures.value c.in_ok-c_p.ensures.clean in
    let within = pointer_within n (values c.deref.result.now) (values c.deref-2.result.now) is.form n (omega arith) in
    let long = length-map c.deref-2.result.now (λ (x : ℤ). x) in let same = ap length c.deref-2.ensures.value in
    let few = c.in_ok-c_p.ensures.few in
    (omega (arith, a, within, long, same, few), omega (arith, b, within, long, same, few), rows, omega (arith, rows), omega arith)

pub returns-clause-orders : goal.returns-clause-orders
returns-clause-orders g c =
    let n = length c.args.p.now in let new = c.order_counted-2.new in
    let a_p : List ℤ = values c.args.matrix.now.a_p.now in let a_i : List ℤ = values c.args.matrix.now.a_i.now in
    let b_p : List ℤ = values c.deref.result.now in let b_i : List ℤ = values c.deref-2.result.now in
    rw c.if-not-matrix.false (ok_gives c.order_counted-2.result (λ info ordered.
    orders_turned (option_copied c.args.request.now.hold) n c.args.request.now.control.now a_p a_i b_p b_i (values new.p)
    (values new.p_inv) info (lent_clean values c.deref.ensures.value c.deref-2.ensures.value c.in_ok-c_p.ensures.clean) ordered)
    c.order_counted-2.ensures.orders)

pub returns-clause-kept : goal.returns-clause-kept
returns-clause-kept g c = c.order_counted-2.ensures.kept
