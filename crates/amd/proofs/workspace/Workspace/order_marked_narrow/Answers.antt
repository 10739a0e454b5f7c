-- The number of rows is the one that its 32 bits hold, and a call that fits is ordered in the widths of the workspace.
use Rattle.std.proofs.Common.{ℕ, ℤ, List, arith, length, refl, subst, sym, to_z, of_z, w32, ◌∙◌, ◌≢◌}
use Rattle.std.specs.Option.{option_copied}
use Rattle.std.proofs.lemmas.Int.{ints, to_z-of_z}
use Rattle.std.proofs.lemmas.Result.{err_from_is_err_and}
use Rattle.amd_engine.specs.InPlace.{values}
use Rattle.amd_count_laws.specs.Within.{FitsIn}
use Rattle.amd.specs.Answers.{IsOrderingHolding}
use Rattle.amd.specs.Within.{IsWithinRefusal}
use Rattle.amd.specs.Workspaces.{entries_of, rows_of}
use Rattle.amd.proofs.OrderedColumns.{has_status, ordering}
use Rattle.amd.proofs.FittingMatrices.{fits_lists}
use Rattle.amd.proofs.TestedCalls.{nothing_ordered, says_jumbled}
use Rattle.amd.proofs.ValidCalls.{is_given}
use Rattle.amd.proofs.workspace.Workspace.order_marked_narrow.Goals as goal

pub fitting_rows-requires : goal.fitting_rows-requires
fitting_rows-requires g c = record { fits = rw (to_z-of_z w32 c.args.n c.ranges.n) c.ranges.n }

pub returns-in_err-size-clause-ordering : goal.returns-in_err-size-clause-ordering
returns-in_err-size-clause-ordering g c =
    let p = err_from_is_err_and c.from_residual.result c.from_residual.ensures.1 in rw p.1 tt

pub returns-in_err-size-clause-inside : goal.returns-in_err-size-clause-inside
returns-in_err-size-clause-inside g c =
    let p = err_from_is_err_and c.from_residual.result c.from_residual.ensures.1 in rw p.1 tt

pub returns-in_err-size-clause-refusal : goal.returns-in_err-size-clause-refusal
returns-in_err-size-clause-refusal g c =
    let p = err_from_is_err_and c.from_residual.result c.from_residual.ensures.1 in
    rw (p.1, p.2) (subst (λ x. IsWithinRefusal (option_copied c.args.request.now.hold) x (values c.args.a_p.now) (values c.args.a_i.now)
    (values c.args.p.now) (values c.args.p_inv.now) c.args.self.now.rows c.args.self.now.entries c.in_err-size.field-0.0)
    (to_z-of_z w32 c.args.n c.ranges.n) c.in_err-size.ensures.refused)

pub returns-in_err-size-clause-kept : goal.returns-in_err-size-clause-kept
returns-in_err-size-clause-kept g c =
    let p = err_from_is_err_and c.from_residual.result c.from_residual.ensures.1 in
    rw p.1 (refl {a = c.args.p.now}, refl {a = c.args.p_inv.now}, refl {a = c.args.self.now})

pub returns-in_err-size-clause-made : goal.returns-in_err-size-clause-made
returns-in_err-size-clause-made g c = (refl {a = c.args.self.now.rows}, refl {a = c.args.self.now.entries})

pub returns-then-size-eq0-clause-ordering : goal.returns-then-size-eq0-clause-ordering
returns-then-size-eq0-clause-ordering g c =
    let e = c.in_ok-size.ensures in let control = c.args.request.now.control.now in
    nothing_ordered (λ x. x) (option_copied c.args.request.now.hold) c.in_ok-size.size c.args.n control.dense control.aggressive
    (values c.args.a_p.now) (values c.args.a_i.now) c.args.p.now c.args.p_inv.now c.new.result
    (e.size ∙ to_z-of_z w32 c.args.n c.ranges.n) c.if-size-eq0.true e.places.0 e.places.1 c.new.ensures

pub returns-then-size-eq0-clause-inside : goal.returns-then-size-eq0-clause-inside
returns-then-size-eq0-clause-inside g c = let self = c.args.self.now in
    subst (λ x. FitsIn x (values c.args.a_p.now) self.rows self.entries) (to_z-of_z w32 c.args.n c.ranges.n) c.in_ok-size.ensures.inside

pub returns-then-size-eq0-clause-made : goal.returns-then-size-eq0-clause-made
returns-then-size-eq0-clause-made g c = (refl {a = c.args.self.now.rows}, refl {a = c.args.self.now.entries})

pub unreachable-requires : goal.unreachable-requires
unreachable-requires g c =
    let e = c.in_ok-size.ensures in let some = c.if-size-eq0.false in
    says_jumbled (to_z w32 (of_z w32 c.args.n)) (values c.args.a_p.now) (values c.args.a_i.now) c.in_ok-size.status (e.status some)
    (e.valid some) (sym c.jumbled_of.ensures ∙ c.in_default.is)

pub order_lending-requires-clause-inside : goal.order_lending-requires-clause-inside
order_lending-requires-clause-inside g c =
    let e = c.in_ok-size.ensures in let self = c.args.self.now in
    fits_lists c.in_ok-size.size (to_z w32 (of_z w32 c.args.n)) (values c.args.a_p.now) self.rows self.entries (rows_of self.widths)
    (entries_of self.widths) (length c.args.p.now) e.size c.if-size-eq0.false self.made.0 self.made.1 e.places.0 e.inside

pub order_lending-requires-clause-given : goal.order_lending-requires-clause-given
order_lending-requires-clause-given g c =
    let e = c.in_ok-size.ensures in
    is_given (option_copied c.args.request.now.hold) c.in_ok-size.size _ (values c.args.a_p.now) (values c.args.a_i.now)
    c.in_ok-size.status e.size c.if-size-eq0.false e.marks e.status e.valid c.in-Some.jumbled
    (sym c.jumbled_of.ensures ∙ c.in-Some.is) (length c.args.p.now) (length c.args.p_inv.now) e.places.0 e.places.1

pub order_lending-requires-clause-fits : goal.order_lending-requires-clause-fits
order_lending-requires-clause-fits g c =
    let e = c.in_ok-size.ensures in let is = e.size ∙ to_z-of_z w32 c.args.n c.ranges.n in let places = e.places.0 in
    let range = c.ranges.n.sfits in
    omega (arith, ints, is, places, range)

pub invariant_of-self : goal.invariant_of-self
invariant_of-self g c =
    let made = c.order_lending.ensures.made in let old = c.args.self.now.made in record { made = (made.0 ∙ old.0, made.1 ∙ old.1) }

pub returns-clause-ordering : goal.returns-clause-ordering
returns-clause-ordering g c =
    let hold = option_copied c.args.request.now.hold in let z : ℤ = to_z w32 (of_z w32 c.args.n) in let e = c.in_ok-size.ensures in
    let a_p : List ℤ = values c.args.a_p.now in let a_i : List ℤ = values c.args.a_i.now in
    let new = c.order_lending.new in let p : List ℤ = values new.p in let q : List ℤ = values new.p_inv in
    let size : ℕ = c.in_ok-size.size in let status = c.in_ok-size.status in let control = c.args.request.now.control.now in
    let some : size ≢ 0 = c.if-size-eq0.false in
    subst (λ x. IsOrderingHolding hold x control.dense control.aggressive a_p a_i p q new.info)
    (to_z-of_z w32 c.args.n c.ranges.n)
    (ordering hold size z control c.in-Some.jumbled a_p a_i p q new.info status e.size
    (has_status hold size z a_p a_i status e.size some (λ _. e.marks some) (λ _. e.status some))
    (sym c.jumbled_of.ensures ∙ c.in-Some.is) c.order_lending.ensures.status (rw e.places.0 at c.order_lending.ensures.orders))

pub returns-clause-inside : goal.returns-clause-inside
returns-clause-inside g c = let self = c.args.self.now in
    subst (λ x. FitsIn x (values c.args.a_p.now) self.rows self.entries) (to_z-of_z w32 c.args.n c.ranges.n) c.in_ok-size.ensures.inside

pub returns-clause-made : goal.returns-clause-made
returns-clause-made g c = (refl {a = c.args.self.now.rows}, refl {a = c.args.self.now.entries})
