-- The letter stands between what is before and behind its place.
use Rattle.std.proofs.Common.{◌+◌, ◌-◌, ◌∙◌, sym, get_or, length, drop, length-drop, arith}
use Rattle.std.proofs.lemmas.List.Quantifiers.{position-Some}
use Rattle.std.proofs.lemmas.List.{take_all}
use Rattle.amd_market.specs.Boeing.{is_whole_letter}
use Rattle.amd_market.proofs.BoeingLemmas.{low-letter, split-at}
use Rattle.amd_market.proofs.CardLemmas.{position-before, position-none}
use Rattle.amd_market.proofs.fields.around_letter.Goals as goal

pub returns : goal.returns
returns c =
    let text = c.args.text.now in
    let place = c.in_ok-place.place in
    let at = position-Some is_whole_letter text place 0 (sym c.letter_place.ensures ∙ c.in_ok-place.was) in
    let size = length-drop (place + 1) text in
    let all = take_all (length text - (place + 1)) (drop (place + 1) text) (omega (arith, size)) in
    let split = split-at text place 0 at.0 in
    let before = position-before is_whole_letter text place (sym c.letter_place.ensures ∙ c.in_ok-place.was) in
    (get_or text place 0, (low-letter (get_or text place 0) at.1, ((rw all split), before)))

pub returns-in_err-place : goal.returns-in_err-place
returns-in_err-place c = rw c.from_residual.ensures
    (position-none is_whole_letter c.args.text.now (sym c.letter_place.ensures ∙ c.in_err-place.was))
