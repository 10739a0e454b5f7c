-- A call that is valid has a status that tells its columns, and orders them or is refused memory; any other is refused.
use Rattle.std.proofs.Common.{ℤ, List, length, map, refl, sym, arith, ◌∙◌}
use Rattle.std.specs.Option.{option_copied}
use Rattle.std.proofs.lemmas.Int.{ints}
use Rattle.std.proofs.lemmas.Result.{IfOk-from_err, err_from_is_err_and}
use Rattle.amd_types.proofs.Fitting.{fits_below}
use Rattle.amd.specs.Within.{pairs_by}
use Rattle.amd.proofs.KeptLists.{stay}
use Rattle.amd.proofs.OrderedColumns.{ordering}
use Rattle.amd.proofs.Orderings.{orders_still}
use Rattle.amd.proofs.TestedCalls.{nothing_ordered, says_jumbled}
use Rattle.amd.proofs.ValidCalls.{is_given, has_its_status}
use Rattle.amd.proofs.into.order_into.Goals as goal

pub order_once-requires-clause-given : goal.order_once-requires-clause-given
order_once-requires-clause-given g c =
    let e = c.in-Some.ensures in
    is_given (option_copied c.args.hold) c.in-Some.size (g.I.Index.value c.args.n) (map g.I.Index.value c.args.a_p.now)
    (map g.I.Index.value c.args.a_i.now) c.in-Some.status e.size c.if-size-eq0.false e.marks e.status e.valid c.in-Some-jumbled_of.jumbled
    (sym c.jumbled_of.ensures ∙ c.in-Some-jumbled_of.is) (length c.args.p.now) (length c.args.p_inv.now) e.places.0 e.places.1

pub order_once-requires-clause-fits : goal.order_once-requires-clause-fits
order_once-requires-clause-fits g c = λ k l.
    let e = c.in-Some.ensures in let same = e.size in let places = e.places in
    fits_below g.I.Index.fits g.met.I.Index.zero_fits g.met.I.Index.between k
    (g.I.Index.value c.args.n) c.requires.fits (omega (arith, ints, l, same, places))

pub returns-clause-ordering : goal.returns-clause-ordering
returns-clause-ordering g c =
    let hold = option_copied c.args.hold in let z : ℤ = g.I.Index.value c.args.n in let e = c.in-Some.ensures in
    let a_p : List ℤ = map g.I.Index.value c.args.a_p.now in let a_i : List ℤ = map g.I.Index.value c.args.a_i.now in
    let p : List ℤ = map g.I.Index.value c.order_once.new.p in let q : List ℤ = map g.I.Index.value c.order_once.new.p_inv in
    let n = c.in-Some.size in let control = c.args.control.now in
    let jumbled = c.in-Some-jumbled_of.jumbled in let status = c.in-Some.status in let info = c.in_ok-info.info in
    ordering hold n z control jumbled a_p a_i p q (record info { status = status }) status e.size
    (has_its_status hold n z a_p a_i status e.size c.if-size-eq0.false e.marks e.status)
    (sym c.jumbled_of.ensures ∙ c.in-Some-jumbled_of.is) refl
    (orders_still hold n control (pairs_by jumbled n a_p a_i) a_p a_i p q info status (rw e.places.0 at c.in_ok-info.ensures.orders))

pub valid_rows-requires : goal.valid_rows-requires
valid_rows-requires g c = c.requires

pub returns-in_default-clause-ordering : goal.returns-in_default-clause-ordering
returns-in_default-clause-ordering g c = tt

pub returns-in_default-clause-refusal : goal.returns-in_default-clause-refusal
returns-in_default-clause-refusal g c = λ call. let some = c.in_default.ensures.call.1 call in cc

pub returns-in_default-clause-kept : goal.returns-in_default-clause-kept
returns-in_default-clause-kept g c = stay c.args.p.now c.args.p_inv.now

pub returns-then-size-eq0-clause-ordering : goal.returns-then-size-eq0-clause-ordering
returns-then-size-eq0-clause-ordering g c =
    let value = g.I.Index.value in let control = c.args.control.now in let e = c.in-Some.ensures in let none = c.if-size-eq0.true in
    nothing_ordered value (option_copied c.args.hold) c.in-Some.size (value c.args.n) control.dense control.aggressive
    (map value c.args.a_p.now) (map value c.args.a_i.now) c.args.p.now c.args.p_inv.now c.new.result e.size none e.places.0 e.places.1
    c.new.ensures

pub returns-then-size-eq0-clause-refusal : goal.returns-then-size-eq0-clause-refusal
returns-then-size-eq0-clause-refusal g c = tt

pub returns-then-size-eq0-clause-kept : goal.returns-then-size-eq0-clause-kept
returns-then-size-eq0-clause-kept g c = tt

pub unreachable-requires : goal.unreachable-requires
unreachable-requires g c =
    let hold = option_copied c.args.hold in let z : ℤ = g.I.Index.value c.args.n in let e = c.in-Some.ensures in
    let a_p : List ℤ = map g.I.Index.value c.args.a_p.now in let a_i : List ℤ = map g.I.Index.value c.args.a_i.now in
    let status = c.in-Some.status in let some = c.if-size-eq0.false in
    says_jumbled z a_p a_i status (e.status some) (e.valid some) (sym c.jumbled_of.ensures ∙ c.in_default-jumbled_of.is)

pub returns-in_err-info-clause-ordering : goal.returns-in_err-info-clause-ordering
returns-in_err-info-clause-ordering g c = IfOk-from_err c.from_residual.result _ c.from_residual.ensures.0

pub returns-in_err-info-clause-refusal : goal.returns-in_err-info-clause-refusal
returns-in_err-info-clause-refusal g c =
    let hold = option_copied c.args.hold in let z : ℤ = g.I.Index.value c.args.n in let e = c.in-Some.ensures in
    let a_p : List ℤ = map g.I.Index.value c.args.a_p.now in let a_i : List ℤ = map g.I.Index.value c.args.a_i.now in
    let has = has_its_status hold c.in-Some.size z a_p a_i c.in-Some.status e.size c.if-size-eq0.false e.marks e.status in
    let p = err_from_is_err_and c.from_residual.result c.from_residual.ensures.1 in rw (p.1, p.2) (has.some, e.call.0 refl)

pub returns-in_err-info-clause-kept : goal.returns-in_err-info-clause-kept
returns-in_err-info-clause-kept g c =
    let p = err_from_is_err_and c.from_residual.result c.from_residual.ensures.1 in rw p.1 c.in_err-info.ensures.kept

pub returns-clause-refusal : goal.returns-clause-refusal
returns-clause-refusal g c = tt

pub returns-clause-kept : goal.returns-clause-kept
returns-clause-kept g c = tt
