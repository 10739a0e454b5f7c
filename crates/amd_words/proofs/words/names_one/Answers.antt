use Rattle.std.proofs.Common.{rules, ℤ, pos, ◌∙◌, ap, w64, FitsSigned}
use Rattle.std.proofs.lemmas.Int.{to_z-of_z}
use Rattle.amd_words.specs.Words.{word}
use Rattle.amd_words.proofs.Signs.{place_test}
use Rattle.amd_words.proofs.words.names_one.Goals as goal

pub returns : goal.returns
returns g c = let z : ℤ = c.word_at.result in let f : FitsSigned w64 z = search rules in
    ap (lib.Signed.le_z (pos 0)) (to_z-of_z w64 z f ∙ c.word_at.ensures.is) ∙ place_test (word c.args.words.now c.args.k)
