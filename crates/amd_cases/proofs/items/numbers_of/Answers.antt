-- One word is taken off at each turn.
use Rattle.std.proofs.Common.{◌++◌, ◌∷◌, [], ap, ◌∙◌}
use Rattle.std.proofs.Math.Facts.{to_z-of_z}
use Rattle.amd_cases.proofs.NumberLemmas.{words-turn, words-stop}
use Rattle.amd_cases.proofs.items.numbers_of.Goals as goal

pub returns-in_default-number_of : goal.returns-in_default-number_of
returns-in_default-number_of g c = λ _ zs h. words-stop _ c.words.invariant.0 _ _ _ zs c.words.invariant.1 c.in-Some.ensures.words
    c.in_default-number_of.ensures h

pub words-preserved : goal.words-preserved
words-preserved g c = words-turn _ c.words.invariant.0 _ _ _ _ _ _ c.words.invariant.1 c.words.invariant.2 c.in-Some.ensures.words
    c.in-Some-number_of.ensures ((rw c.in_ok-push.was at c.push.ensures.items) ∙
    ap (λ z. c.words.numbers.items ++ z ∷ []) (to_z-of_z c.in-Some-number_of.ensures.fits))
