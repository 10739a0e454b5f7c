-- A call that fits is ordered in the widths of the workspace; no other changes anything.
use Rattle.std.proofs.Common.{ℕ, ℤ, List, ap, arith, length, map, refl, sym, ◌∙◌, ◌≢◌}
use Rattle.std.specs.Option.{option_copied}
use Rattle.std.proofs.lemmas.Int.{ints}
use Rattle.std.proofs.lemmas.Result.{err_from_is_err_and}
use Rattle.amd_types.proofs.Fitting.{fits_below}
use Rattle.amd_types.specs.Records.{fresh_info}
use Rattle.amd.specs.Workspaces.{entries_of, rows_of}
use Rattle.amd.proofs.OrderedColumns.{has_status, ordering}
use Rattle.amd.proofs.FittingMatrices.{fits_lists}
use Rattle.amd.proofs.TestedCalls.{nothing_ordered, says_jumbled}
use Rattle.amd.proofs.ValidCalls.{is_given}
use Rattle.amd.proofs.workspace.Workspace.order_marked.Goals as goal

pub fitting_rows-requires : goal.fitting_rows-requires
fitting_rows-requires g c = record { fits = c.requires.fits }

pub returns-in_err-size-clause-ordering : goal.returns-in_err-size-clause-ordering
returns-in_err-size-clause-ordering g c =
    let p = err_from_is_err_and c.from_residual.result c.from_residual.ensures.1 in rw p.1 tt

pub returns-in_err-size-clause-inside : goal.returns-in_err-size-clause-inside
returns-in_err-size-clause-inside g c =
    let p = err_from_is_err_and c.from_residual.result c.from_residual.ensures.1 in rw p.1 tt

pub returns-in_err-size-clause-refusal : goal.returns-in_err-size-clause-refusal
returns-in_err-size-clause-refusal g c =
    let p = err_from_is_err_and c.from_residual.result c.from_residual.ensures.1 in rw (p.1, p.2) c.in_err-size.ensures.refused

pub returns-in_err-size-clause-kept : goal.returns-in_err-size-clause-kept
returns-in_err-size-clause-kept g c =
    let p = err_from_is_err_and c.from_residual.result c.from_residual.ensures.1 in
    rw p.1 (refl {a = c.args.p.now}, refl {a = c.args.p_inv.now}, refl {a = c.args.self.now})

pub returns-in_err-size-clause-made : goal.returns-in_err-size-clause-made
returns-in_err-size-clause-made g c = (refl {a = c.args.self.now.rows}, refl {a = c.args.self.now.entries})

pub new-info-requires : goal.new-info-requires
new-info-requires g c = tt

pub returns-then-size-eq0-clause-ordering : goal.returns-then-size-eq0-clause-ordering
returns-then-size-eq0-clause-ordering g c =
    let value = g.I.Index.value in let e = c.in_ok-size.ensures in let control = c.args.request.now.control.now in
    nothing_ordered value (option_copied c.args.request.now.hold) c.in_ok-size.size (value c.args.n) control.dense control.aggressive
    (map value c.args.a_p.now) (map value c.args.a_i.now) c.args.p.now c.args.p_inv.now c.new-info.result e.size c.if-size-eq0.true
    e.places.0 e.places.1 (c.new-info.ensures ∙ ap fresh_info c.if-size-eq0.true)

pub returns-then-size-eq0-clause-inside : goal.returns-then-size-eq0-clause-inside
returns-then-size-eq0-clause-inside g c = c.in_ok-size.ensures.inside

pub returns-then-size-eq0-clause-refusal : goal.returns-then-size-eq0-clause-refusal
returns-then-size-eq0-clause-refusal g c = tt

pub returns-then-size-eq0-clause-kept : goal.returns-then-size-eq0-clause-kept
returns-then-size-eq0-clause-kept g c = tt

pub returns-then-size-eq0-clause-made : goal.returns-then-size-eq0-clause-made
returns-then-size-eq0-clause-made g c = (refl {a = c.args.self.now.rows}, refl {a = c.args.self.now.entries})

pub jumbled_of-requires : goal.jumbled_of-requires
jumbled_of-requires g c = tt

pub unreachable-requires : goal.unreachable-requires
unreachable-requires g c =
    let value = g.I.Index.value in let e = c.in_ok-size.ensures in let some = c.if-size-eq0.false in
    says_jumbled (value c.args.n) (map value c.args.a_p.now) (map value c.args.a_i.now) c.in_ok-size.status (e.status some)
    (e.valid some) (sym c.jumbled_of.ensures ∙ c.in_default.is)

pub order-requires-clause-inside : goal.order-requires-clause-inside
order-requires-clause-inside g c =
    let value = g.I.Index.value in let e = c.in_ok-size.ensures in let self = c.args.self.now in
    fits_lists c.in_ok-size.size (value c.args.n) (map value c.args.a_p.now) self.rows self.entries (rows_of self.widths)
    (entries_of self.widths) (length c.args.p.now) e.size c.if-size-eq0.false self.made.0 self.made.1 e.places.0 e.inside

pub order-requires-clause-given : goal.order-requires-clause-given
order-requires-clause-given g c =
    let e = c.in_ok-size.ensures in
    is_given (option_copied c.args.request.now.hold) c.in_ok-size.size (g.I.Index.value c.args.n)
    (map g.I.Index.value c.args.a_p.now) (map g.I.Index.value c.args.a_i.now) c.in_ok-size.status e.size c.if-size-eq0.false e.marks
    e.status e.valid c.in-Some.jumbled (sym c.jumbled_of.ensures ∙ c.in-Some.is) (length c.args.p.now) (length c.args.p_inv.now)
    e.places.0 e.places.1

pub order-requires-clause-fits : goal.order-requires-clause-fits
order-requires-clause-fits g c = λ k l.
    let e = c.in_ok-size.ensures in let same = e.size in let places = e.places in
    fits_below g.I.Index.fits g.met.I.Index.zero_fits g.met.I.Index.between k
    (g.I.Index.value c.args.n) c.requires.fits (omega (arith, ints, l, same, places))

pub invariant_of-self : goal.invariant_of-self
invariant_of-self g c =
    let made = c.order.ensures.made in let old = c.args.self.now.made in record { made = (made.0 ∙ old.0, made.1 ∙ old.1) }

pub returns-clause-inside : goal.returns-clause-inside
returns-clause-inside g c = c.in_ok-size.ensures.inside

pub returns-clause-ordering : goal.returns-clause-ordering
returns-clause-ordering g c =
    let hold = option_copied c.args.request.now.hold in let z : ℤ = g.I.Index.value c.args.n in
    let a_p : List ℤ = map g.I.Index.value c.args.a_p.now in let a_i : List ℤ = map g.I.Index.value c.args.a_i.now in
    let p : List ℤ = map g.I.Index.value c.order.new.p in let q : List ℤ = map g.I.Index.value c.order.new.p_inv in
    let size : ℕ = c.in_ok-size.size in let status = c.in_ok-size.status in
    let e = c.in_ok-size.ensures in let some : size ≢ 0 = c.if-size-eq0.false in
    ordering hold size z c.args.request.now.control.now c.in-Some.jumbled a_p a_i p q c.order.new.info status e.size
    (has_status hold size z a_p a_i status e.size some (λ _. e.marks some) (λ _. e.status some))
    (sym c.jumbled_of.ensures ∙ c.in-Some.is) c.order.ensures.status (rw e.places.0 at c.order.ensures.orders)

pub returns-clause-refusal : goal.returns-clause-refusal
returns-clause-refusal g c = tt

pub returns-clause-kept : goal.returns-clause-kept
returns-clause-kept g c = tt

pub returns-clause-made : goal.returns-clause-made
returns-clause-made g c = (refl {a = c.args.self.now.rows}, refl {a = c.args.self.now.entries})
