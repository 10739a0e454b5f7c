-- Numbers that were raised: they fit words.
use Rattle.std.proofs.Common.{ℕ, ℤ, pos, negsuc, suc, List, [], ◌∷◌, ◌<◌, ◌≤◌, ◌+◌, length, get_or, set, nat_abs, arith, inl, inr}
use Rattle.std.specs.Prelude.{◌≤ℤ◌}
use Rattle.std.proofs.lemmas.Int.{ints}
use Rattle.std.proofs.lemmas.Bool.{cases_eq}
use Rattle.std.proofs.Common.{get_or-set_same, get_or-set_other}
use lib.Signed.{mag}
use Rattle.amd_lending.specs.Views.{Each}

pub each_from : {X : Type 0} (ok : X → Type 0) (xs : List X) (z : X) → ((k : ℕ) → k < length xs → ok (get_or xs k z)) → Each ok xs
each_from ok [] z h = tt
each_from ok (x ∷ xs) z h = (h 0 (omega arith), each_from ok xs z (λ k l. h (suc k) (omega (arith, l))))

-- what is not below the least word fits one
pub raised_fits : (z : ℤ) → mag z < 9223372036854775808 → negsuc 9223372036854775806 ≤ℤ z → nat_abs z ≤ 9223372036854775807
raised_fits (pos n) small low = omega (arith, small)
raised_fits (negsuc n) small low = omega (arith, ints, low)

pub fit_more : (xs : List ℤ) (i : ℕ) (z : ℤ) → i < length xs → nat_abs z ≤ 9223372036854775807 →
    ((k : ℕ) → k < i → nat_abs (get_or xs k (pos 0)) ≤ 9223372036854775807) →
    (k : ℕ) → k < i + 1 → nat_abs (get_or (set xs i z) k (pos 0)) ≤ 9223372036854775807
fit_more xs i z l here before k small = elim (cases_eq k i) [
  | inl e ↦ rw (e, get_or-set_same xs i z (pos 0) l) here
  | inr ne ↦ rw (get_or-set_other xs i k z (pos 0) ne) (before k (omega (arith, small, ne)))
]
