-- The goals of ending::front_in.
use Rattle.std.proofs.Common.{rules, ℤ, negsuc, false, ◌≡◌, ◌∙◌, ap, sym, w64, FitsSigned}
use Rattle.std.specs.Prelude.{int_lt}
use Rattle.std.proofs.lemmas.Int.{to_z-of_z}
use Rattle.amd_words.specs.Words.{flip_of}
use Rattle.amd_rounds.specs.Views.{flipped}
use Rattle.amd_workspace.proofs.EndWords.{mark_told, plain_told}
use Rattle.amd_workspace.proofs.ending.front_in.Goals as goal

pub returns-then-mark-ltminus1-clause-is : goal.returns-then-mark-ltminus1-clause-is
returns-then-mark-ltminus1-clause-is g c =
    let z : ℤ = c.word_at-mark.result in let f : FitsSigned w64 z = search rules in
    let e : z ≡ flip_of c.number_in.result = sym (to_z-of_z w64 z f) ∙ c.number_in.ensures in
    sym (ap flipped (sym c.word_at-mark.ensures.is) ∙ mark_told z c.number_in.result e)

pub returns-else-mark-ltminus1-clause-is : goal.returns-else-mark-ltminus1-clause-is
returns-else-mark-ltminus1-clause-is g c =
    let z : ℤ = c.word_at-mark.result in let f : FitsSigned w64 z = search rules in
    let e : int_lt z (negsuc 0) ≡ false = sym (ap (λ y. int_lt y (negsuc 0)) (to_z-of_z w64 z f)) ∙ c.if-mark-ltminus1.false in
    sym (ap flipped (sym c.word_at-mark.ensures.is) ∙ plain_told z e)
