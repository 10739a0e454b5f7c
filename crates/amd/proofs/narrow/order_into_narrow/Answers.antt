-- A valid call is ordered in the lists of the result, where memory is not refused; the number of rows is the one that 32 bits hold.
use Rattle.std.proofs.Common.{ℤ, List, arith, length, refl, subst, sym, to_z, of_z, w32, false, true, ◌≡◌, ◌∙◌}
use Rattle.std.specs.Option.{option_copied}
use Rattle.std.proofs.lemmas.Int.{ints, to_z-of_z}
use Rattle.std.proofs.lemmas.Result.{err_from_is_err_and}
use Rattle.amd.specs.Answers.{IsOrderingHolding}
use Rattle.amd.specs.Within.{IsCall, pairs_by}
use Rattle.amd_engine.specs.InPlace.{values}
use Rattle.amd.proofs.OrderedColumns.{not_nothing, ordering}
use Rattle.amd.proofs.Orderings.{orders_still}
use Rattle.amd.proofs.TestedCalls.{nothing_ordered, says_jumbled}
use Rattle.amd.proofs.ValidCalls.{is_given, has_its_status}
use Rattle.amd.proofs.narrow.order_into_narrow.Goals as goal

pub valid_rows-requires : goal.valid_rows-requires
valid_rows-requires g c = record { fits = rw (to_z-of_z w32 c.args.n c.ranges.n) c.ranges.n }

pub returns-in_default-clause-ordering : goal.returns-in_default-clause-ordering
returns-in_default-clause-ordering g c = tt

pub returns-in_default-clause-refusal : goal.returns-in_default-clause-refusal
returns-in_default-clause-refusal g c = λ call.
    let no : false ≡ true = c.in_default.ensures.call.1 (subst (λ x. IsCall (option_copied c.args.hold) x (values c.args.a_p.now)
    (values c.args.a_i.now) (values c.args.p.now) (values c.args.p_inv.now)) (sym (to_z-of_z w32 c.args.n c.ranges.n)) call) in
    cc

pub returns-in_default-clause-kept : goal.returns-in_default-clause-kept
returns-in_default-clause-kept g c = (refl {a = c.args.p.now}, refl {a = c.args.p_inv.now})

pub returns-then-size-eq0-clause-ordering : goal.returns-then-size-eq0-clause-ordering
returns-then-size-eq0-clause-ordering g c =
    let e = c.in-Some.ensures in let control = c.args.control.now in
    nothing_ordered (λ x. x) (option_copied c.args.hold) c.in-Some.size c.args.n control.dense control.aggressive
    (values c.args.a_p.now) (values c.args.a_i.now) c.args.p.now c.args.p_inv.now c.new.result
    (e.size ∙ to_z-of_z w32 c.args.n c.ranges.n) c.if-size-eq0.true e.places.0 e.places.1 c.new.ensures

pub returns-then-size-eq0-clause-refusal : goal.returns-then-size-eq0-clause-refusal
returns-then-size-eq0-clause-refusal g c = tt

pub returns-then-size-eq0-clause-kept : goal.returns-then-size-eq0-clause-kept
returns-then-size-eq0-clause-kept g c = tt

pub unreachable-requires : goal.unreachable-requires
unreachable-requires g c =
    let e = c.in-Some.ensures in let some = c.if-size-eq0.false in
    says_jumbled (to_z w32 (of_z w32 c.args.n)) (values c.args.a_p.now) (values c.args.a_i.now) c.in-Some.status (e.status some)
    (e.valid some) (sym c.jumbled_of.ensures ∙ c.in_default-jumbled_of.is)

pub order_lending-requires-clause-given : goal.order_lending-requires-clause-given
order_lending-requires-clause-given g c =
    let e = c.in-Some.ensures in
    is_given (option_copied c.args.hold) c.in-Some.size _ (values c.args.a_p.now) (values c.args.a_i.now) c.in-Some.status e.size
    c.if-size-eq0.false e.marks e.status e.valid c.in-Some-jumbled_of.jumbled
    (sym c.jumbled_of.ensures ∙ c.in-Some-jumbled_of.is) (length c.args.p.now) (length c.args.p_inv.now) e.places.0 e.places.1

pub order_lending-requires-clause-fits : goal.order_lending-requires-clause-fits
order_lending-requires-clause-fits g c =
    let e = c.in-Some.ensures in let is = e.size ∙ to_z-of_z w32 c.args.n c.ranges.n in let places = e.places.0 in
    let range = c.ranges.n.sfits in
    omega (arith, ints, is, places, range)

pub returns-in_err-info-clause-ordering : goal.returns-in_err-info-clause-ordering
returns-in_err-info-clause-ordering g c =
    let p = err_from_is_err_and c.from_residual.result c.from_residual.ensures.1 in rw p.1 tt

pub returns-in_err-info-clause-refusal : goal.returns-in_err-info-clause-refusal
returns-in_err-info-clause-refusal g c =
    let p = err_from_is_err_and c.from_residual.result c.from_residual.ensures.1 in let e = c.in-Some.ensures in
    let same = to_z-of_z w32 c.args.n c.ranges.n in
    rw (p.1, p.2) (
      not_nothing c.in-Some.size c.args.n (e.size ∙ same) c.if-size-eq0.false,
      subst (λ x. IsCall (option_copied c.args.hold) x (values c.args.a_p.now) (values c.args.a_i.now) (values c.args.p.now)
          (values c.args.p_inv.now)) same (e.call.0 refl),
    )

pub returns-in_err-info-clause-kept : goal.returns-in_err-info-clause-kept
returns-in_err-info-clause-kept g c =
    let p = err_from_is_err_and c.from_residual.result c.from_residual.ensures.1 in rw p.1 c.in_err-info.ensures.kept

pub returns-clause-ordering : goal.returns-clause-ordering
returns-clause-ordering g c =
    let hold = option_copied c.args.hold in let z : ℤ = to_z w32 (of_z w32 c.args.n) in let e = c.in-Some.ensures in
    let a_p : List ℤ = values c.args.a_p.now in let a_i : List ℤ = values c.args.a_i.now in
    let p : List ℤ = values c.order_lending.new.p in let q : List ℤ = values c.order_lending.new.p_inv in
    let n = c.in-Some.size in let control = c.args.control.now in
    let jumbled = c.in-Some-jumbled_of.jumbled in let status = c.in-Some.status in let info = c.in_ok-info.info in
    subst (λ x. IsOrderingHolding hold x control.dense control.aggressive a_p a_i p q (record info { status = status }))
    (to_z-of_z w32 c.args.n c.ranges.n)
    (ordering hold n z control jumbled a_p a_i p q (record info { status = status }) status e.size
    (has_its_status hold n z a_p a_i status e.size c.if-size-eq0.false e.marks e.status)
    (sym c.jumbled_of.ensures ∙ c.in-Some-jumbled_of.is) refl
    (orders_still hold n control (pairs_by jumbled n a_p a_i) a_p a_i p q info status (rw e.places.0 at c.in_ok-info.ensures.orders)))

pub returns-clause-refusal : goal.returns-clause-refusal
returns-clause-refusal g c = tt

pub returns-clause-kept : goal.returns-clause-kept
returns-clause-kept g c = tt
