-- The marks of owners as signed numbers: which word is one, and that each names one owner.
use Rattle.std.proofs.Common.{ℕ, ℤ, pos, negsuc, zero, suc, ◌≡◌, ◌+◌, ◌-◌, false, ap, refl, arith}
use Rattle.std.proofs.lemmas.Bool.{true≢false}
use Rattle.amd_words.specs.Words.{is_place, flip_of}

pub owner_form : (z : ℤ) → is_place z ≡ false → (z ≡ negsuc 0 → ⊥) → (m : ℕ) × (z ≡ flip_of m)
unfolding is_place
owner_form (pos n) h ne = absurd (true≢false h)
owner_form (negsuc zero) h ne = absurd (ne refl)
owner_form (negsuc (suc m)) h ne = (m, ap negsuc (omega arith))

less : ℤ → ℕ
less (pos n) = 0
less (negsuc n) = n - 1

pub flip_same : (i j : ℕ) → flip_of i ≡ flip_of j → i ≡ j
unfolding less
flip_same i j e = let a : (i + 1) - 1 ≡ (j + 1) - 1 = ap less e in omega (arith, a)

more : ℤ → ℕ
more (pos n) = 0
more (negsuc n) = n

pub flip_some : (i : ℕ) → flip_of i ≡ negsuc 0 → ⊥
unfolding more
flip_some i e = let a : i + 1 ≡ 0 = ap more e in omega (arith, a)
