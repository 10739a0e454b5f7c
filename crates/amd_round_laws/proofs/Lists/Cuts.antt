-- Numbers that are cut to the greatest one that a word holds.
use Rattle.std.proofs.Common.{ℕ, refl, ◌≡◌, ◌≤◌, ◌+◌, arith}
use Rattle.std.specs.Prelude.{min}
use Rattle.amd_model.specs.Figures.{cut}

-- a number cut to a word stays what it is when more is added first
pub cut_more : (t a b : ℕ) → t ≡ cut a → cut (t + b) ≡ cut (a + b)
unfolding cut
cut_more t a b e = omega (arith, e)

-- a number that a word holds stays what it is
pub cut_small : (a : ℕ) → a ≤ 18446744073709551615 → a ≡ cut a
unfolding cut
cut_small a h = omega (arith, h)

-- the lesser of a number and the greatest that a word holds
pub cut_min : (a : ℕ) → min a 18446744073709551615 ≡ cut a
unfolding cut
cut_min a = refl
