-- A call is valid where there is a place for each row in both lists, and the status says whether the columns are jumbled.
use Rattle.std.proofs.Common.{◌≢◌, ap, arith, inl, inr, map, pos, refl, subst, sym, ◌∙◌}
use Rattle.std.specs.Int.{FitsUnsignedBits}
use Rattle.std.specs.Option.{option_copied}
use Rattle.std.proofs.lemmas.List.{length-map}
use Rattle.amd_types.specs.declared.amd.Status.TheVariants.{Invalid}
use Rattle.amd.proofs.Calls.{call_places, valid_call}
use Rattle.amd.proofs.OrderedColumns.{HasStatus, has_status, not_nothing}
use Rattle.amd.proofs.TestedCalls.{has_input, no_input, status_valid}
use Rattle.amd.proofs.workspace.valid_rows.Given.{Over}
use Rattle.amd.proofs.workspace.valid_rows.Goals.{After-class_of-status, Else-is_none}
use Rattle.amd.proofs.workspace.valid_rows.Goals as goal

-- what is known of the input by its status
known : (g : Over) (c : After-class_of-status g) → HasStatus (option_copied c.args.hold) (g.I.Index.value c.args.n)
    (map g.I.Index.value c.args.a_p.now) (map g.I.Index.value c.args.a_i.now) c.class_of-status.result
known g c =
    let value = g.I.Index.value in
    has_status (option_copied c.args.hold) c.in_ok-size.size (value c.args.n) (map value c.args.a_p.now) (map value c.args.a_i.now)
    c.class_of-status.result c.in_ok-size.ensures.1 c.if-size-eq0.false c.class_of-status.ensures.marks c.class_of-status.ensures.status

-- a status that says whether the columns are jumbled is not `Invalid`
valid : (g : Over) (c : Else-is_none g) → c.class_of-status.result ≢ Invalid
valid g c = status_valid c.class_of-status.result (rw c.jumbled_of.ensures at c.if-is_none.ensures)

pub returns-in_err-size-clause-size : goal.returns-in_err-size-clause-size
returns-in_err-size-clause-size g c = rw c.from_residual.ensures tt

pub returns-in_err-size-clause-places : goal.returns-in_err-size-clause-places
returns-in_err-size-clause-places g c = rw c.from_residual.ensures tt

pub returns-in_err-size-clause-marks : goal.returns-in_err-size-clause-marks
returns-in_err-size-clause-marks g c = rw c.from_residual.ensures tt

pub returns-in_err-size-clause-valid : goal.returns-in_err-size-clause-valid
returns-in_err-size-clause-valid g c = rw c.from_residual.ensures tt

pub returns-in_err-size-clause-status : goal.returns-in_err-size-clause-status
returns-in_err-size-clause-status g c = rw c.from_residual.ensures tt

pub returns-in_err-size-clause-call : goal.returns-in_err-size-clause-call
returns-in_err-size-clause-call g c =
    let value = g.I.Index.value in
    rw c.from_residual.ensures (
      λ e. cc,
      λ call.
          let long = length-map c.args.p.now value in
          absurd (c.in_err-size.ensures (subst (FitsUnsignedBits 64) (sym call.places.0) (omega (arith, long, c.well_formed)))),
    )

pub returns-then-p-size-clause-size : goal.returns-then-p-size-clause-size
returns-then-p-size-clause-size g c = tt

pub returns-then-p-size-clause-places : goal.returns-then-p-size-clause-places
returns-then-p-size-clause-places g c = tt

pub returns-then-p-size-clause-marks : goal.returns-then-p-size-clause-marks
returns-then-p-size-clause-marks g c = tt

pub returns-then-p-size-clause-valid : goal.returns-then-p-size-clause-valid
returns-then-p-size-clause-valid g c = tt

pub returns-then-p-size-clause-status : goal.returns-then-p-size-clause-status
returns-then-p-size-clause-status g c = tt

pub returns-then-p-size-clause-call : goal.returns-then-p-size-clause-call
returns-then-p-size-clause-call g c = (
  λ e. cc,
  λ call.
      let value = g.I.Index.value in
      let long = call_places value (option_copied c.args.hold) c.in_ok-size.size (value c.args.n) (map value c.args.a_p.now)
      (map value c.args.a_i.now) c.args.p.now c.args.p_inv.now c.in_ok-size.ensures.1 call in
      elim c.then-p-size.either [ inl differs ↦ absurd (differs long.0) | inr differs ↦ absurd (differs.1 long.1) ],
)

pub returns-then-size-eq0-clause-size : goal.returns-then-size-eq0-clause-size
returns-then-size-eq0-clause-size g c = sym (ap pos c.if-size-eq0.true) ∙ c.in_ok-size.ensures.1

pub returns-then-size-eq0-clause-places : goal.returns-then-size-eq0-clause-places
returns-then-size-eq0-clause-places g c = (c.if-p-size.false ∙ c.if-size-eq0.true, c.if-p_inv-size.false ∙ c.if-size-eq0.true)

pub returns-then-size-eq0-clause-marks : goal.returns-then-size-eq0-clause-marks
returns-then-size-eq0-clause-marks g c = λ some. absurd (some refl)

pub returns-then-size-eq0-clause-valid : goal.returns-then-size-eq0-clause-valid
returns-then-size-eq0-clause-valid g c = λ some. absurd (some refl)

pub returns-then-size-eq0-clause-status : goal.returns-then-size-eq0-clause-status
returns-then-size-eq0-clause-status g c = λ some. absurd (some refl)

pub returns-then-size-eq0-clause-call : goal.returns-then-size-eq0-clause-call
returns-then-size-eq0-clause-call g c =
    let value = g.I.Index.value in let is = c.in_ok-size.ensures.1 in (
      λ _. valid_call value (option_copied c.args.hold) c.in_ok-size.size (value c.args.n) (map value c.args.a_p.now)
          (map value c.args.a_i.now) c.args.p.now c.args.p_inv.now is c.if-p-size.false c.if-p_inv-size.false
          (λ some. absurd (some (sym is ∙ ap pos c.if-size-eq0.true))),
      λ _. refl,
    )

pub class_of-status-requires-clause-fits : goal.class_of-status-requires-clause-fits
class_of-status-requires-clause-fits g c = c.requires.fits

pub class_of-status-requires-clause-count : goal.class_of-status-requires-clause-count
class_of-status-requires-clause-count g c = sym c.in_ok-size.ensures.1

pub returns-then-is_none-clause-size : goal.returns-then-is_none-clause-size
returns-then-is_none-clause-size g c = tt

pub returns-then-is_none-clause-places : goal.returns-then-is_none-clause-places
returns-then-is_none-clause-places g c = tt

pub returns-then-is_none-clause-marks : goal.returns-then-is_none-clause-marks
returns-then-is_none-clause-marks g c = tt

pub returns-then-is_none-clause-valid : goal.returns-then-is_none-clause-valid
returns-then-is_none-clause-valid g c = tt

pub returns-then-is_none-clause-status : goal.returns-then-is_none-clause-status
returns-then-is_none-clause-status g c = tt

pub returns-then-is_none-clause-call : goal.returns-then-is_none-clause-call
returns-then-is_none-clause-call g c =
    let value = g.I.Index.value in (
      λ e. cc,
      λ call. absurd (no_input (option_copied c.args.hold) (value c.args.n) (map value c.args.a_p.now) (map value c.args.a_i.now)
          c.class_of-status.result (known g (goal.at.returns-then-is_none-clause-call g c).After-class_of-status)
          (rw c.jumbled_of.ensures at c.if-is_none.ensures)
          (call.input (not_nothing c.in_ok-size.size (value c.args.n) c.in_ok-size.ensures.1 c.if-size-eq0.false))),
    )

pub returns-clause-size : goal.returns-clause-size
returns-clause-size g c = c.in_ok-size.ensures.1

pub returns-clause-places : goal.returns-clause-places
returns-clause-places g c = (c.if-p-size.false, c.if-p_inv-size.false)

pub returns-clause-marks : goal.returns-clause-marks
returns-clause-marks g c = λ _. c.class_of-status.ensures.marks (valid g c)

pub returns-clause-valid : goal.returns-clause-valid
returns-clause-valid g c = λ _. valid g c

pub returns-clause-status : goal.returns-clause-status
returns-clause-status g c = λ _. c.class_of-status.ensures.status (c.class_of-status.ensures.marks (valid g c))

pub returns-clause-call : goal.returns-clause-call
returns-clause-call g c =
    let value = g.I.Index.value in let hold = option_copied c.args.hold in let z = value c.args.n in (
      λ _. valid_call value hold c.in_ok-size.size z (map value c.args.a_p.now) (map value c.args.a_i.now) c.args.p.now c.args.p_inv.now
          c.in_ok-size.ensures.1 c.if-p-size.false c.if-p_inv-size.false (λ _. has_input hold z (map value c.args.a_p.now)
          (map value c.args.a_i.now) c.class_of-status.result (known g (goal.at.returns-clause-call g c).After-class_of-status)
          (valid g c)),
      λ _. refl,
    )
