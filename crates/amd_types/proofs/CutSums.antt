-- A sum whose terms are cut on the way is cut as the whole sum is.
use Rattle.std.proofs.Common.{ℕ, ◌≡◌, ◌+◌, ◌-◌, ◌^◌, min, arith}
use Rattle.amd_model.specs.Figures.{cut}

pub cut_add : (x y : ℕ) → cut (cut x + y) ≡ cut (x + y)
unfolding cut
cut_add x y = omega arith

-- adding a figure that is cut, in an addition that stops at the greatest count
pub add_cut : (x y : ℕ) → min (x + cut y) (2 ^ 64 - 1) ≡ cut (x + y)
unfolding cut
add_cut x y = omega arith
