-- As for `order_in_block`, for the number of rows that 32 bits hold.
use Rattle.std.proofs.Common.{ℤ, List, pos, ap, false, length, refl, subst, sym, true, arith, to_z, of_z, w32, ◌∙◌, ◌≡◌, ◌≤◌}
use Rattle.std.specs.Option.{option_copied}
use Rattle.std.proofs.lemmas.Int.{ints, to_z-of_z}
use Rattle.amd_edges.proofs.Forms.{pointer_read}
use Rattle.amd_engine.specs.InPlace.{values}
use Rattle.amd.specs.Answers.{IsOrderingHolding}
use Rattle.amd.specs.Blocks.{workspace_bytes}
use Rattle.amd.specs.Within.{IsCall}
use Rattle.amd.proofs.OrderedColumns.{ordering}
use Rattle.amd.proofs.FittingMatrices.{block_bytes, block_small, fits_block}
use Rattle.amd.proofs.TestedCalls.{nothing_ordered, says_jumbled}
use Rattle.amd.proofs.ValidCalls.{has_form, has_its_status, is_given}
use Rattle.amd.proofs.block.order_in_block_narrow.Goals as goal

pub valid_rows-requires : goal.valid_rows-requires
valid_rows-requires c = record { fits = rw (to_z-of_z w32 c.args.n c.ranges.n) c.ranges.n }

pub returns-in_default-clause-ordering : goal.returns-in_default-clause-ordering
returns-in_default-clause-ordering c = tt

pub returns-in_default-clause-inside : goal.returns-in_default-clause-inside
returns-in_default-clause-inside c = tt

pub returns-in_default-clause-refusal : goal.returns-in_default-clause-refusal
returns-in_default-clause-refusal c = λ call.
    let no : false ≡ true = c.in_default.ensures.call.1 (subst (λ x. IsCall (option_copied c.args.hold) x (values c.args.a_p.now)
    (values c.args.a_i.now) (values c.args.p.now) (values c.args.p_inv.now)) (sym (to_z-of_z w32 c.args.n c.ranges.n)) call) in
    cc

pub returns-in_default-clause-kept : goal.returns-in_default-clause-kept
returns-in_default-clause-kept c = (refl {a = c.args.p.now}, refl {a = c.args.p_inv.now})

pub returns-then-size-eq0-clause-ordering : goal.returns-then-size-eq0-clause-ordering
returns-then-size-eq0-clause-ordering c =
    let e = c.in-Some.ensures in let control = c.args.control.now in
    nothing_ordered (λ x. x) (option_copied c.args.hold) c.in-Some.size c.args.n control.dense control.aggressive
    (values c.args.a_p.now) (values c.args.a_i.now) c.args.p.now c.args.p_inv.now c.new.result
    (e.size ∙ to_z-of_z w32 c.args.n c.ranges.n) c.if-size-eq0.true e.places.0 e.places.1 c.new.ensures

pub returns-then-size-eq0-clause-inside : goal.returns-then-size-eq0-clause-inside
returns-then-size-eq0-clause-inside c =
    let is = c.in-Some.ensures.size ∙ to_z-of_z w32 c.args.n c.ranges.n in
    λ some. absurd (some (sym is ∙ ap pos c.if-size-eq0.true))

pub returns-then-size-eq0-clause-refusal : goal.returns-then-size-eq0-clause-refusal
returns-then-size-eq0-clause-refusal c = tt

pub returns-then-size-eq0-clause-kept : goal.returns-then-size-eq0-clause-kept
returns-then-size-eq0-clause-kept c = tt

pub unreachable-requires : goal.unreachable-requires
unreachable-requires c =
    let e = c.in-Some.ensures in let some = c.if-size-eq0.false in
    says_jumbled (to_z w32 (of_z w32 c.args.n)) (values c.args.a_p.now) (values c.args.a_i.now) c.in-Some.status (e.status some)
    (e.valid some) (sym c.jumbled_of.ensures ∙ c.in_default-jumbled_of.is)

pub count_at-requires-clause-within : goal.count_at-requires-clause-within
count_at-requires-clause-within c =
    let e = c.in-Some.ensures in let a_p : List ℤ = values c.args.a_p.now in let a_i : List ℤ = values c.args.a_i.now in
    (pointer_read (λ x. x) c.args.a_p.now c.args.a_i.now c.in-Some.size
    (has_form (option_copied c.args.hold) c.in-Some.size _ a_p a_i c.in-Some.status e.size c.if-size-eq0.false e.marks e.status e.valid)
    c.in-Some.size (omega arith) (omega (arith, c.well_formed))).0

pub count_at-requires-clause-fits : goal.count_at-requires-clause-fits
count_at-requires-clause-fits c =
    let e = c.in-Some.ensures in let a_p : List ℤ = values c.args.a_p.now in let a_i : List ℤ = values c.args.a_i.now in
    (pointer_read (λ x. x) c.args.a_p.now c.args.a_i.now c.in-Some.size
    (has_form (option_copied c.args.hold) c.in-Some.size _ a_p a_i c.in-Some.status e.size c.if-size-eq0.false e.marks e.status e.valid)
    c.in-Some.size (omega arith) (omega (arith, c.well_formed))).1

pub returns-in_default-enough-clause-ordering : goal.returns-in_default-enough-clause-ordering
returns-in_default-enough-clause-ordering c = tt

pub returns-in_default-enough-clause-inside : goal.returns-in_default-enough-clause-inside
returns-in_default-enough-clause-inside c = tt

pub returns-in_default-enough-clause-refusal : goal.returns-in_default-enough-clause-refusal
returns-in_default-enough-clause-refusal c =
    let e = c.in-Some.ensures in let same = to_z-of_z w32 c.args.n c.ranges.n in (
      subst (λ x. IsCall (option_copied c.args.hold) x (values c.args.a_p.now) (values c.args.a_i.now) (values c.args.p.now)
          (values c.args.p_inv.now)) same (e.call.0 refl),
      block_small c.in-Some.size c.args.n (values c.args.a_p.now) c.count_at.result c.args.block.size (e.size ∙ same)
          c.if-size-eq0.false c.count_at.ensures.count c.in_default-enough.ensures,
    )

pub returns-in_default-enough-clause-kept : goal.returns-in_default-enough-clause-kept
returns-in_default-enough-clause-kept c = (refl {a = c.args.p.now}, refl {a = c.args.p_inv.now})

pub order_fitting_lent-requires-clause-bytes : goal.order_fitting_lent-requires-clause-bytes
order_fitting_lent-requires-clause-bytes c =
    let e = c.in-Some.ensures in
    block_bytes c.in-Some.size (to_z w32 (of_z w32 c.args.n)) (values c.args.a_p.now) c.count_at.result c.in-Some-enough.block.size
    e.size c.if-size-eq0.false c.count_at.ensures.count (length c.args.p.now) e.places.0 c.in-Some-enough.ensures.0

pub order_fitting_lent-requires-clause-given : goal.order_fitting_lent-requires-clause-given
order_fitting_lent-requires-clause-given c =
    let e = c.in-Some.ensures in
    is_given (option_copied c.args.hold) c.in-Some.size _ (values c.args.a_p.now) (values c.args.a_i.now) c.in-Some.status e.size
    c.if-size-eq0.false e.marks e.status e.valid c.in-Some-jumbled_of.jumbled
    (sym c.jumbled_of.ensures ∙ c.in-Some-jumbled_of.is) (length c.args.p.now) (length c.args.p_inv.now) e.places.0 e.places.1

pub order_fitting_lent-requires-clause-fits : goal.order_fitting_lent-requires-clause-fits
order_fitting_lent-requires-clause-fits c =
    let e = c.in-Some.ensures in let is = e.size ∙ to_z-of_z w32 c.args.n c.ranges.n in let places = e.places.0 in
    let range = c.ranges.n.sfits in
    omega (arith, ints, is, places, range)

pub returns-clause-ordering : goal.returns-clause-ordering
returns-clause-ordering c =
    let hold = option_copied c.args.hold in let z : ℤ = to_z w32 (of_z w32 c.args.n) in let e = c.in-Some.ensures in
    let a_p : List ℤ = values c.args.a_p.now in let a_i : List ℤ = values c.args.a_i.now in
    let new = c.order_fitting_lent.new in let p : List ℤ = values new.p in let q : List ℤ = values new.p_inv in
    let control = c.args.control.now in
    subst (λ x. IsOrderingHolding hold x control.dense control.aggressive a_p a_i p q new.info)
    (to_z-of_z w32 c.args.n c.ranges.n)
    (ordering hold c.in-Some.size z control c.in-Some-jumbled_of.jumbled a_p a_i p q new.info c.in-Some.status e.size
    (has_its_status hold c.in-Some.size z a_p a_i c.in-Some.status e.size c.if-size-eq0.false e.marks e.status)
    (sym c.jumbled_of.ensures ∙ c.in-Some-jumbled_of.is) c.order_fitting_lent.ensures.status
    (rw e.places.0 at c.order_fitting_lent.ensures.orders))

pub returns-clause-inside : goal.returns-clause-inside
returns-clause-inside c =
    let e = c.in-Some.ensures in let room = c.in-Some-enough.ensures in
    fits_block c.in-Some.size c.args.n (values c.args.a_p.now) c.count_at.result c.args.block.size
    (e.size ∙ to_z-of_z w32 c.args.n c.ranges.n) c.if-size-eq0.false c.count_at.ensures.count
    (subst (λ s. workspace_bytes c.in-Some.size c.count_at.result ≤ s) room.1 room.0)

pub returns-clause-refusal : goal.returns-clause-refusal
returns-clause-refusal c = tt

pub returns-clause-kept : goal.returns-clause-kept
returns-clause-kept c = tt
