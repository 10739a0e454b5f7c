-- What the operations on signed words make of numbers of rows.
use Rattle.std.proofs.Common.{ℕ, ℤ, suc, pos, negsuc, ◌≡◌, ◌<◌, ◌≤◌, ◌+◌, ◌^◌, sym, subst, arith, w64, to_z, of_z, ◌+ℤ◌, ◌-ℤ◌}
use Rattle.std.proofs.Common.{lt_of_le_of_lt, lt_trans, lit<}
use Rattle.std.proofs.lemmas.Int.{ints}

-- a marked number is turned back
pub turned_back : (z : ℤ) (n : ℕ) → z ≡ negsuc n → suc n < 2 ^ 63 → to_z w64 (of_z w64 (pos 0 -ℤ to_z w64 (of_z w64 z))) ≡ pos (suc n)
turned_back z n is small = rw is (omega (arith, ints))

pub back_casts : (z : ℤ) (n : ℕ) → z ≡ negsuc n → suc n < 2 ^ 63 →
    lib.Dec.T (lib.Signed.non_neg (to_z w64 (of_z w64 (pos 0 -ℤ to_z w64 (of_z w64 z)))))
    × mir.Val.Fits w64 (lib.IntN.nat_abs (to_z w64 (of_z w64 (pos 0 -ℤ to_z w64 (of_z w64 z)))))
back_casts z n is small = subst (λ y. lib.Dec.T (lib.Signed.non_neg y) × mir.Val.Fits w64 (lib.IntN.nat_abs y))
    (sym (turned_back z n is small)) (tt, record { fits = lt_trans small (lit< tt) })

-- a number is marked
pub turned_over : (z : ℤ) (n : ℕ) → z ≡ pos (suc n) → suc n < 2 ^ 63 → to_z w64 (of_z w64 (pos 0 -ℤ to_z w64 (of_z w64 z))) ≡ negsuc n
turned_over z n is small = rw is (omega (arith, ints))

-- two marked numbers are added
pub summed : (y z : ℤ) (a b : ℕ) → y ≡ negsuc a → z ≡ negsuc b → suc a + suc b < 2 ^ 63 →
    to_z w64 (of_z w64 (to_z w64 (of_z w64 y) +ℤ to_z w64 (of_z w64 z))) ≡ negsuc (a + b + 1)
summed y z a b y_is z_is small = rw (y_is, z_is) (omega (arith, ints))

-- a word is small
pub small_mark : (z : ℤ) (n most : ℕ) → z ≡ negsuc n → lib.IntN.nat_abs z ≤ most → most < 2 ^ 63 → suc n < 2 ^ 63
small_mark z n most is fits top = lt_of_le_of_lt (subst (λ y. lib.IntN.nat_abs y ≤ most) is fits) top

pub small_size : (z : ℤ) (n most : ℕ) → z ≡ pos (suc n) → lib.IntN.nat_abs z ≤ most → most < 2 ^ 63 → suc n < 2 ^ 63
small_size z n most is fits top = lt_of_le_of_lt (subst (λ y. lib.IntN.nat_abs y ≤ most) is fits) top

pub small_sum : (a b p q most : ℕ) → p ≡ suc a → q ≡ suc b → p + q ≤ most → most < 2 ^ 63 → suc a + suc b < 2 ^ 63
small_sum a b p q most p_is q_is fits top = omega arith
