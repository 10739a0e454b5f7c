use Rattle.std.proofs.Common.{rules, ℤ, pos, ◌≤◌, ◌∙◌, ap, subst, w64, FitsSigned}
use Rattle.std.proofs.lemmas.Int.{to_z-of_z}
use Rattle.amd_words.specs.Words.{word}
use Rattle.amd_words.proofs.Signs.{open_test, abs_rows}
use Rattle.amd_words.proofs.words.is_open.Goals as goal

pub returns-clause-is : goal.returns-clause-is
returns-clause-is g c = let z : ℤ = c.word_at.result in let f : FitsSigned w64 z = search rules in
    ap (lib.Signed.lt_z (pos 0)) (to_z-of_z w64 z f ∙ c.word_at.ensures.is) ∙ open_test (word c.args.nv.now c.args.j)

pub returns-clause-small : goal.returns-clause-small
returns-clause-small g c = subst (λ n. n ≤ g.S.Signed.MOST) (ap lib.IntN.nat_abs c.word_at.ensures.is
    ∙ abs_rows (word c.args.nv.now c.args.j)) c.word_at.ensures.small
