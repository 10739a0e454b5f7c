use Rattle.std.proofs.Common.{rules, ℤ, pos, ◌∙◌, ap, w64, FitsSigned}
use Rattle.std.proofs.lemmas.Int.{to_z-of_z}
use Rattle.amd_words.specs.Words.{word}
use Rattle.amd_words.proofs.Signs.{mark_test}
use Rattle.amd_words.proofs.words.is_marked.Goals as goal

pub returns : goal.returns
returns g c = let z : ℤ = c.word_at.result in let f : FitsSigned w64 z = search rules in
    ap (λ y. lib.Signed.lt_z y (pos 0)) (to_z-of_z w64 z f ∙ c.word_at.ensures.is) ∙ mark_test (word c.args.nv.now c.args.j)
