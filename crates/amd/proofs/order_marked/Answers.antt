-- An input without rows has the empty answer; one whose status tells its columns is ordered by them, or refused memory; others are refused.
use Rattle.std.proofs.Common.{ℤ, Bool, List, ◌≡◌, ap, drop, length, map, pos, refl, sym, arith, ◌∙◌}
use Rattle.std.specs.Prelude.{Some}
use Rattle.std.specs.Option.{option_copied}
use Rattle.std.proofs.lemmas.Int.{ints}
use Rattle.std.proofs.lemmas.List.{take_at}
use Rattle.std.proofs.lemmas.Result.{IfOk-from_err, err_from_is_err_and}
use Rattle.amd_types.proofs.Fitting.{fits_below}
use Rattle.amd_types.specs.declared.amd.Status.{Status}
use Rattle.amd_types.specs.declared.amd.Status.TheVariants.{OutOfMemory}
use Rattle.amd.specs.Answers.{IsRefusalHolding}
use Rattle.amd.specs.Within.{jumbled_by, pairs_by}
use Rattle.amd.proofs.EarlyAnswers.{ordering_nothing, refused_count, refused_status}
use Rattle.amd.proofs.OrderedColumns.{HasStatus, has_status, jumbled_valid, ordering, refused}
use Rattle.amd.proofs.Orderings.{orders_still}
use Rattle.amd.proofs.ValidCalls.{is_given}
use Rattle.amd.proofs.order_marked.Given.{Over}
use Rattle.amd.proofs.order_marked.Goals.{After-class_of-status, After-deref_mut, After-deref_mut-2}
use Rattle.amd.proofs.order_marked.Goals as goal

-- what is known of the input by its status
known : (g : Over) (c : After-class_of-status g) → HasStatus (option_copied c.args.hold) (g.I.Index.value c.args.n)
    (map g.I.Index.value c.args.a_p.now) (map g.I.Index.value c.args.a_i.now) c.class_of-status.result
known g c =
    has_status (option_copied c.args.hold) c.in-Some.count (g.I.Index.value c.args.n) (map g.I.Index.value c.args.a_p.now)
    (map g.I.Index.value c.args.a_i.now) c.class_of-status.result c.in-Some.ensures.1 c.if-count-eq0.false c.class_of-status.ensures.marks
    c.class_of-status.ensures.status

-- where it is a column form it is refused for want of memory alone
no_memory : (g : Over) (c : After-class_of-status g) (jumbled : Bool) (e : Status) → jumbled_by c.class_of-status.result ≡ Some jumbled →
    e ≡ OutOfMemory → IsRefusalHolding (option_copied c.args.hold) (g.I.Index.value c.args.n) (map g.I.Index.value c.args.a_p.now)
    (map g.I.Index.value c.args.a_i.now) e
no_memory g c jumbled e by is =
    let status = c.class_of-status.result in
    refused (option_copied c.args.hold) (g.I.Index.value c.args.n) (map g.I.Index.value c.args.a_p.now)
    (map g.I.Index.value c.args.a_i.now) status e (known g c) (jumbled_valid status jumbled by) is

-- there is a place for each row in the lent lists of the result
long : (g : Over) (c : After-deref_mut g) → length c.deref_mut.result.now ≡ c.in-Some.count
long g c = ap length c.deref_mut.ensures.value ∙ c.in_ok-p.ensures

long_inverse : (g : Over) (c : After-deref_mut-2 g) → length c.deref_mut-2.result.now ≡ c.in-Some.count
long_inverse g c = ap length c.deref_mut-2.ensures.value ∙ c.in_ok-p_inv.ensures

pub returns-then-count-eq0-clause-ordering : goal.returns-then-count-eq0-clause-ordering
returns-then-count-eq0-clause-ordering g c =
    let value = g.I.Index.value in let control = c.args.control.now in
    ordering_nothing (option_copied c.args.hold) (value c.args.n) control.dense control.aggressive (map value c.args.a_p.now)
    (map value c.args.a_i.now) (map value c.new.result.items) (map value c.new-then-count-eq0.result.items)
    c.new-then-count-eq0-2.result (sym c.in-Some.ensures.1 ∙ ap pos c.if-count-eq0.true) (ap (map value) c.new.ensures.items)
    (ap (map value) c.new-then-count-eq0.ensures.items) c.new-then-count-eq0-2.ensures

pub class_of-status-requires-clause-count : goal.class_of-status-requires-clause-count
class_of-status-requires-clause-count g c = sym c.in-Some.ensures.1

pub returns-in_default-jumbled_of-clause-refusal : goal.returns-in_default-jumbled_of-clause-refusal
returns-in_default-jumbled_of-clause-refusal g c =
    let value = g.I.Index.value in
    refused_status (option_copied c.args.hold) (value c.args.n) (map value c.args.a_p.now) (map value c.args.a_i.now)
    c.class_of-status.result (known g (goal.at.returns-in_default-jumbled_of-clause-refusal g c).After-class_of-status)
    (sym c.jumbled_of.ensures ∙ c.in_default-jumbled_of.is)

pub order_once-requires-clause-given : goal.order_once-requires-clause-given
order_once-requires-clause-given g c =
    let at = goal.at.order_once-requires-clause-given g c in let valid = c.class_of-status.ensures in
    let by = sym c.jumbled_of.ensures ∙ c.in-Some-jumbled_of.is in let jumbled = c.in-Some-jumbled_of.jumbled in
    let not_invalid = jumbled_valid c.class_of-status.result jumbled by in
    is_given (option_copied c.args.hold) c.in-Some.count (g.I.Index.value c.args.n) (map g.I.Index.value c.args.a_p.now)
    (map g.I.Index.value c.args.a_i.now) c.class_of-status.result c.in-Some.ensures.1 c.if-count-eq0.false (λ some. valid.marks
    not_invalid)
    (λ some. valid.status (valid.marks not_invalid)) (λ some. not_invalid) jumbled by (length c.deref_mut.result.now)
    (length c.deref_mut-2.result.now) (long g at.After-deref_mut) (long_inverse g at.After-deref_mut-2)

pub order_once-requires-clause-fits : goal.order_once-requires-clause-fits
order_once-requires-clause-fits g c = λ k l.
    let size = c.in-Some.ensures.1 in
    let same = long g (goal.at.order_once-requires-clause-fits g c).After-deref_mut in
    fits_below g.I.Index.fits g.met.I.Index.zero_fits g.met.I.Index.between k
    (g.I.Index.value c.args.n) c.requires.fits (omega (arith, ints, l, same, size))

pub returns-clause-ordering : goal.returns-clause-ordering
returns-clause-ordering g c =
    let at = goal.at.returns-clause-ordering g c in let new = c.order_once.new in
    let hold = option_copied c.args.hold in let z : ℤ = g.I.Index.value c.args.n in
    let a_p : List ℤ = map g.I.Index.value c.args.a_p.now in let a_i : List ℤ = map g.I.Index.value c.args.a_i.now in
    let p : List ℤ = map g.I.Index.value new.p in let q : List ℤ = map g.I.Index.value new.p_inv in
    let n = c.in-Some.count in let control = c.args.control.now in
    let jumbled = c.in-Some-jumbled_of.jumbled in let status = c.class_of-status.result in let info = c.in_ok-info.info in
    let same = long g at.After-deref_mut in
    let p_is = take_at new.p (drop (length new.p) c.in_ok-p.p.items) c.in_ok-p.p.len
    (c.order_once.auto.p ∙ ap length c.deref_mut.ensures.value ∙ sym c.in_ok-p.p.ok.0) in
    let q_is = take_at new.p_inv (drop (length new.p_inv) c.in_ok-p_inv.p_inv.items) c.in_ok-p_inv.p_inv.len
    (c.order_once.auto.p_inv ∙ ap length c.deref_mut-2.ensures.value ∙ sym c.in_ok-p_inv.p_inv.ok.0) in
    rw (p_is, q_is) (ordering hold n z control jumbled a_p a_i p q (record info { status = status }) status c.in-Some.ensures.1
    (known g at.After-class_of-status) (sym c.jumbled_of.ensures ∙ c.in-Some-jumbled_of.is) refl
    (orders_still hold n control (pairs_by jumbled n a_p a_i) a_p a_i p q info status (rw same at c.in_ok-info.ensures.orders)))

pub returns-in_default-clause-ordering : goal.returns-in_default-clause-ordering
returns-in_default-clause-ordering g c = tt

pub returns-in_default-clause-refusal : goal.returns-in_default-clause-refusal
returns-in_default-clause-refusal g c =
    let value = g.I.Index.value in
    refused_count value (option_copied c.args.hold) (value c.args.n) c.args.a_p.now (map value c.args.a_i.now)
    (omega (arith, c.well_formed)) c.in_default.ensures

pub returns-then-count-eq0-clause-refusal : goal.returns-then-count-eq0-clause-refusal
returns-then-count-eq0-clause-refusal g c = tt

pub class_of-status-requires-clause-fits : goal.class_of-status-requires-clause-fits
class_of-status-requires-clause-fits g c = c.requires.fits

pub returns-in_default-jumbled_of-clause-ordering : goal.returns-in_default-jumbled_of-clause-ordering
returns-in_default-jumbled_of-clause-ordering g c = tt

pub returns-in_err-p-clause-ordering : goal.returns-in_err-p-clause-ordering
returns-in_err-p-clause-ordering g c = IfOk-from_err c.from_residual.result _ c.from_residual.ensures.0

pub returns-in_err-p-clause-refusal : goal.returns-in_err-p-clause-refusal
returns-in_err-p-clause-refusal g c =
    let p = err_from_is_err_and c.from_residual.result c.from_residual.ensures.1 in
    rw p.1 (no_memory g (goal.at.returns-in_err-p-clause-refusal g c).After-class_of-status c.in-Some-jumbled_of.jumbled p.0
    (sym c.jumbled_of.ensures ∙ c.in-Some-jumbled_of.is) p.2)

pub returns-in_err-p_inv-clause-ordering : goal.returns-in_err-p_inv-clause-ordering
returns-in_err-p_inv-clause-ordering g c = IfOk-from_err c.from_residual-in_err-p_inv.result _ c.from_residual-in_err-p_inv.ensures.0

pub returns-in_err-p_inv-clause-refusal : goal.returns-in_err-p_inv-clause-refusal
returns-in_err-p_inv-clause-refusal g c =
    let p = err_from_is_err_and c.from_residual-in_err-p_inv.result c.from_residual-in_err-p_inv.ensures.1 in
    rw p.1 (no_memory g (goal.at.returns-in_err-p_inv-clause-refusal g c).After-class_of-status c.in-Some-jumbled_of.jumbled p.0
    (sym c.jumbled_of.ensures ∙ c.in-Some-jumbled_of.is) p.2)

pub returns-in_err-info-clause-ordering : goal.returns-in_err-info-clause-ordering
returns-in_err-info-clause-ordering g c = IfOk-from_err c.from_residual-in_err-info.result _ c.from_residual-in_err-info.ensures.0

pub returns-in_err-info-clause-refusal : goal.returns-in_err-info-clause-refusal
returns-in_err-info-clause-refusal g c =
    let p = err_from_is_err_and c.from_residual-in_err-info.result c.from_residual-in_err-info.ensures.1 in
    rw p.1 (no_memory g (goal.at.returns-in_err-info-clause-refusal g c).After-class_of-status c.in-Some-jumbled_of.jumbled p.0
    (sym c.jumbled_of.ensures ∙ c.in-Some-jumbled_of.is) p.2)

pub returns-clause-refusal : goal.returns-clause-refusal
returns-clause-refusal g c = tt
