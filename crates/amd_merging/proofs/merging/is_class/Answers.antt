use Rattle.std.proofs.Common.{rules, pos, negsuc, zero, suc, ℤ, not, ◌≡◌, refl, sym, ◌∙◌, ap, arith, w64, FitsSigned, of_z}
use Rattle.std.specs.Prelude.{nat_lt, ◌==◌}
use Rattle.std.proofs.lemmas.Bool.{ne_eqb, lt-ltb}
use Rattle.std.proofs.lemmas.Int.{ints}
use Rattle.amd_words.specs.Words.{rows_in}
use Rattle.amd_merging.proofs.merging.is_class.Goals as goal

zero_test : (z : ℤ) → FitsSigned w64 z → not (of_z w64 z == 0) ≡ nat_lt 0 (rows_in z)
unfolding rows_in
zero_test (pos zero) f = refl
zero_test (pos (suc n)) f = ap not (ne_eqb (of_z w64 (pos (suc n))) 0 (λ e. absurd (omega (arith, ints, e, f))))
    ∙ sym (lt-ltb 0 (suc n) (omega arith))
zero_test (negsuc n) f = ap not (ne_eqb (of_z w64 (negsuc n)) 0 (λ e. absurd (omega (arith, ints, e, f))))
    ∙ sym (lt-ltb 0 (suc n) (omega arith))

pub returns-clause-class : goal.returns-clause-class
returns-clause-class g c = let z : ℤ = c.word_at.result in let f : FitsSigned w64 z = search rules in zero_test z f
    ∙ ap (λ y. nat_lt 0 (rows_in y)) c.word_at.ensures.is
