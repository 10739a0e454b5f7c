-- A call is ordered where it is valid and the block has the bytes for it; no other changes the lists of the result.
use Rattle.std.proofs.Common.{ℤ, List, pos, ap, false, length, map, refl, subst, sym, true, arith, ◌∙◌, ◌≡◌, ◌≤◌}
use Rattle.std.specs.Option.{option_copied}
use Rattle.std.proofs.lemmas.Int.{ints}
use Rattle.amd_edges.proofs.Forms.{pointer_read}
use Rattle.amd_types.proofs.Fitting.{fits_below}
use Rattle.amd_types.specs.Records.{fresh_info}
use Rattle.amd.specs.Blocks.{workspace_bytes}
use Rattle.amd.proofs.OrderedColumns.{ordering}
use Rattle.amd.proofs.FittingMatrices.{block_bytes, block_small, fits_block}
use Rattle.amd.proofs.TestedCalls.{nothing_ordered, says_jumbled}
use Rattle.amd.proofs.ValidCalls.{has_form, has_its_status, is_given}
use Rattle.amd.proofs.block.order_in_block.Goals as goal

pub valid_rows-requires : goal.valid_rows-requires
valid_rows-requires g c = record { fits = c.requires.fits }

pub returns-in_default-clause-ordering : goal.returns-in_default-clause-ordering
returns-in_default-clause-ordering g c = tt

pub returns-in_default-clause-inside : goal.returns-in_default-clause-inside
returns-in_default-clause-inside g c = tt

pub returns-in_default-clause-refusal : goal.returns-in_default-clause-refusal
returns-in_default-clause-refusal g c = λ call. let no : false ≡ true = c.in_default.ensures.call.1 call in cc

pub returns-in_default-clause-kept : goal.returns-in_default-clause-kept
returns-in_default-clause-kept g c = (refl {a = c.args.p.now}, refl {a = c.args.p_inv.now})

pub new-info-requires : goal.new-info-requires
new-info-requires g c = tt

pub returns-then-size-eq0-clause-ordering : goal.returns-then-size-eq0-clause-ordering
returns-then-size-eq0-clause-ordering g c =
    let value = g.I.Index.value in let e = c.in-Some.ensures in let control = c.args.control.now in
    nothing_ordered value (option_copied c.args.hold) c.in-Some.size (value c.args.n) control.dense control.aggressive
    (map value c.args.a_p.now) (map value c.args.a_i.now) c.args.p.now c.args.p_inv.now c.new-info.result e.size c.if-size-eq0.true
    e.places.0 e.places.1 (c.new-info.ensures ∙ ap fresh_info c.if-size-eq0.true)

pub returns-then-size-eq0-clause-inside : goal.returns-then-size-eq0-clause-inside
returns-then-size-eq0-clause-inside g c =
    λ some. absurd (some (sym c.in-Some.ensures.size ∙ ap pos c.if-size-eq0.true))

pub returns-then-size-eq0-clause-refusal : goal.returns-then-size-eq0-clause-refusal
returns-then-size-eq0-clause-refusal g c = tt

pub returns-then-size-eq0-clause-kept : goal.returns-then-size-eq0-clause-kept
returns-then-size-eq0-clause-kept g c = tt

pub jumbled_of-requires : goal.jumbled_of-requires
jumbled_of-requires g c = tt

pub unreachable-requires : goal.unreachable-requires
unreachable-requires g c =
    let value = g.I.Index.value in let e = c.in-Some.ensures in let some = c.if-size-eq0.false in
    says_jumbled (value c.args.n) (map value c.args.a_p.now) (map value c.args.a_i.now) c.in-Some.status (e.status some) (e.valid some)
    (sym c.jumbled_of.ensures ∙ c.in_default-jumbled_of.is)

pub count_at-requires-clause-within : goal.count_at-requires-clause-within
count_at-requires-clause-within g c =
    let z : ℤ = g.I.Index.value c.args.n in let e = c.in-Some.ensures in
    let a_p : List ℤ = map g.I.Index.value c.args.a_p.now in let a_i : List ℤ = map g.I.Index.value c.args.a_i.now in
    (pointer_read g.I.Index.value c.args.a_p.now c.args.a_i.now c.in-Some.size
    (has_form (option_copied c.args.hold) c.in-Some.size z a_p a_i c.in-Some.status e.size c.if-size-eq0.false e.marks e.status e.valid)
    c.in-Some.size (omega arith) (omega (arith, c.well_formed))).0

pub count_at-requires-clause-fits : goal.count_at-requires-clause-fits
count_at-requires-clause-fits g c =
    let z : ℤ = g.I.Index.value c.args.n in let e = c.in-Some.ensures in
    let a_p : List ℤ = map g.I.Index.value c.args.a_p.now in let a_i : List ℤ = map g.I.Index.value c.args.a_i.now in
    (pointer_read g.I.Index.value c.args.a_p.now c.args.a_i.now c.in-Some.size
    (has_form (option_copied c.args.hold) c.in-Some.size z a_p a_i c.in-Some.status e.size c.if-size-eq0.false e.marks e.status e.valid)
    c.in-Some.size (omega arith) (omega (arith, c.well_formed))).1

pub enough-requires : goal.enough-requires
enough-requires g c = tt

pub returns-in_default-enough-clause-ordering : goal.returns-in_default-enough-clause-ordering
returns-in_default-enough-clause-ordering g c = tt

pub returns-in_default-enough-clause-inside : goal.returns-in_default-enough-clause-inside
returns-in_default-enough-clause-inside g c = tt

pub returns-in_default-enough-clause-refusal : goal.returns-in_default-enough-clause-refusal
returns-in_default-enough-clause-refusal g c =
    let value = g.I.Index.value in let e = c.in-Some.ensures in (
      e.call.0 refl,
      block_small c.in-Some.size (value c.args.n) (map value c.args.a_p.now) c.count_at.result c.args.block.size e.size
          c.if-size-eq0.false c.count_at.ensures.count c.in_default-enough.ensures,
    )

pub returns-in_default-enough-clause-kept : goal.returns-in_default-enough-clause-kept
returns-in_default-enough-clause-kept g c = (refl {a = c.args.p.now}, refl {a = c.args.p_inv.now})

pub order_fitting-requires-clause-bytes : goal.order_fitting-requires-clause-bytes
order_fitting-requires-clause-bytes g c =
    let value = g.I.Index.value in let e = c.in-Some.ensures in
    block_bytes c.in-Some.size (value c.args.n) (map value c.args.a_p.now) c.count_at.result c.in-Some-enough.block.size e.size
    c.if-size-eq0.false c.count_at.ensures.count (length c.args.p.now) e.places.0 c.in-Some-enough.ensures.0

pub order_fitting-requires-clause-given : goal.order_fitting-requires-clause-given
order_fitting-requires-clause-given g c =
    let e = c.in-Some.ensures in
    is_given (option_copied c.args.hold) c.in-Some.size (g.I.Index.value c.args.n) (map g.I.Index.value c.args.a_p.now)
    (map g.I.Index.value c.args.a_i.now) c.in-Some.status e.size c.if-size-eq0.false e.marks e.status e.valid c.in-Some-jumbled_of.jumbled
    (sym c.jumbled_of.ensures ∙ c.in-Some-jumbled_of.is) (length c.args.p.now) (length c.args.p_inv.now) e.places.0 e.places.1

pub order_fitting-requires-clause-fits : goal.order_fitting-requires-clause-fits
order_fitting-requires-clause-fits g c = λ k l.
    let e = c.in-Some.ensures in let same = e.size in let places = e.places in
    fits_below g.I.Index.fits g.met.I.Index.zero_fits g.met.I.Index.between k
    (g.I.Index.value c.args.n) c.requires.fits (omega (arith, ints, l, same, places))

pub returns-clause-ordering : goal.returns-clause-ordering
returns-clause-ordering g c =
    let hold = option_copied c.args.hold in let z : ℤ = g.I.Index.value c.args.n in let e = c.in-Some.ensures in
    let a_p : List ℤ = map g.I.Index.value c.args.a_p.now in let a_i : List ℤ = map g.I.Index.value c.args.a_i.now in
    let p : List ℤ = map g.I.Index.value c.order_fitting.new.p in let q : List ℤ = map g.I.Index.value c.order_fitting.new.p_inv in
    ordering hold c.in-Some.size z c.args.control.now c.in-Some-jumbled_of.jumbled a_p a_i p q
    c.order_fitting.new.info c.in-Some.status e.size
    (has_its_status hold c.in-Some.size z a_p a_i c.in-Some.status e.size c.if-size-eq0.false e.marks e.status)
    (sym c.jumbled_of.ensures ∙ c.in-Some-jumbled_of.is) c.order_fitting.ensures.status (rw e.places.0 at c.order_fitting.ensures.orders)

pub returns-clause-inside : goal.returns-clause-inside
returns-clause-inside g c =
    let value = g.I.Index.value in let e = c.in-Some.ensures in let room = c.in-Some-enough.ensures in
    fits_block c.in-Some.size (value c.args.n) (map value c.args.a_p.now) c.count_at.result c.args.block.size e.size
    c.if-size-eq0.false c.count_at.ensures.count (subst (λ s. workspace_bytes c.in-Some.size c.count_at.result ≤ s) room.1 room.0)

pub returns-clause-refusal : goal.returns-clause-refusal
returns-clause-refusal g c = tt

pub returns-clause-kept : goal.returns-clause-kept
returns-clause-kept g c = tt
