-- The byte stands between what is before and behind its place.
use Rattle.std.proofs.Common.{◌+◌, ◌-◌, ◌∙◌, sym, get_or, length, drop, length-drop, arith}
use Rattle.std.specs.Prelude.{◌==◌}
use Rattle.std.proofs.lemmas.List.Quantifiers.{position-Some}
use Rattle.std.proofs.lemmas.List.{take_all}
use Rattle.std.proofs.lemmas.Bool.{eqb-true}
use Rattle.amd_market.proofs.BoeingLemmas.{split-at}
use Rattle.amd_market.proofs.CardLemmas.{position-before, position-none}
use Rattle.amd_market.proofs.fields.around_byte.Goals as goal

pub returns : goal.returns
returns c =
    let text = c.args.text.now in
    let byte = c.args.byte in
    let place = c.in_ok-place.place in
    let at = position-Some (λ b. b == byte) text place 0 (sym c.byte_place.ensures ∙ c.in_ok-place.was) in
    let size = length-drop (place + 1) text in
    let all = take_all (length text - (place + 1)) (drop (place + 1) text) (omega (arith, size)) in
    let split = split-at text place 0 at.0 in
    let here = eqb-true (get_or text place 0) byte at.1 in
    let before = position-before (λ b. b == byte) text place (sym c.byte_place.ensures ∙ c.in_ok-place.was) in
    (rw all (rw here at split), before)

pub returns-in_err-place : goal.returns-in_err-place
returns-in_err-place c = rw c.from_residual.ensures
    (position-none (λ b. b == c.args.byte) c.args.text.now (sym c.byte_place.ensures ∙ c.in_err-place.was))
