-- The bracket stands at its place, and none before it.
use Rattle.std.proofs.Common.{◌≡◌, ◌+◌, ◌∙◌, ap, sym, get_or, arith, false, subst}
use Rattle.std.specs.Prelude.{All, slice_index}
use Rattle.std.proofs.lemmas.List.Quantifiers.{position-Some}
use Rattle.std.proofs.lemmas.List.{get_or-drop, take-append-drop}
use Rattle.std.proofs.lemmas.Bool.{eqb-true}
use Rattle.amd_market.specs.Boeing.{is_bracket}
use Rattle.amd_market.proofs.CardLemmas.{position-before, position-none}
use Rattle.amd_market.proofs.fields.at_bracket.Goals as goal

pub returns : goal.returns
returns c =
    let text = c.args.text.now in
    let place = c.in_ok-place.place in
    let found = sym c.bracket_place.ensures ∙ c.in_ok-place.was in
    let at = position-Some is_bracket text place 0 found in
    let front = c.split_at.ensures.front in
    let back = c.split_at.ensures.back in
    let here : place + 0 ≡ place = omega arith in (
      rw (front, back) (sym (take-append-drop place text)),
      ap (λ z. slice_index z 0) back ∙ get_or-drop place text 0 0 ∙ ap (λ k. get_or text k 0) here ∙ eqb-true _ 40 at.1,
      subst (λ z. All (λ b. is_bracket b ≡ false) z) (sym front) (position-before is_bracket text place found),
    )

pub returns-in_err-place : goal.returns-in_err-place
returns-in_err-place c = rw c.from_residual.ensures
    (position-none is_bracket c.args.text.now (sym c.bracket_place.ensures ∙ c.in_err-place.was))
