-- What a conversion says of the integer that a number stands for.
use Rattle.std.proofs.Common.{◌≡◌, ◌∙◌, ℤ, pos, negsuc, Fits, FitsSigned, ap, of_z, refl, subst, to_z, w64}
use Rattle.std.specs.Prelude.{IfSome, Option, Some, unsigned_abs}
use Rattle.std.specs.Int.{FitsUnsignedBits}
use Rattle.std.proofs.lemmas.Int.{to_z-of_z}

-- a fact of the integer of a number that has one
pub of_integer : (P : ℤ → Type 0) (o : Option ℤ) (z : ℤ) → o ≡ Some z → IfSome o P → P z
of_integer P o z has fact = subst (λ q. IfSome q P) has fact

-- a signed number is what its bits give back
pub given_back : (y z : ℤ) → FitsSigned w64 z × (y ≡ z) → to_z w64 (of_z w64 y) ≡ z
given_back y z is = ap (λ x. to_z w64 (of_z w64 x)) is.1 ∙ to_z-of_z w64 z is.0

-- a number of 64 bits without a sign is a count
pub is_count : (z : ℤ) → FitsUnsignedBits 64 z → lib.Dec.T (lib.Signed.non_neg z) × Fits w64 (lib.IntN.nat_abs z)
is_count (pos n) small = (tt, record { fits = small })
is_count (negsuc n) small = absurd small

-- such a number is the count of its absolute value
pub count_back : (z : ℤ) → FitsUnsignedBits 64 z → pos (unsigned_abs z) ≡ z
count_back (pos n) small = refl
count_back (negsuc n) small = absurd small
