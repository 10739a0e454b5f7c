-- Rows that are written as numbers of a caller's type: what they say as counts.
use Rattle.std.proofs.Common.{ℕ, ℤ, pos, ◌≡◌, ◌<◌, ◌^◌, arith, refl, sym, ◌∙◌, ap, subst, List, [], ◌∷◌, length, map, set}
use Rattle.std.specs.Prelude.{◌<ℤ◌, unsigned_abs}
use Rattle.std.specs.Int.{FitsUnsignedBits}
use Rattle.std.proofs.lemmas.Int.{ints}
use Rattle.std.proofs.lemmas.List.{map-set, length-map}
use Rattle.amd_types.specs.Naturals.{naturals}
use Rattle.amd_factor.specs.Numbers.{AreNonNegative}

module _ {X : Type 0} (value : X → ℤ) (rows : List X) (k j : ℕ) (number : X) (is : value number ≡ pos j) where
  -- a number more, as a count
  pub set-count : naturals (map value (set rows k number)) ≡ set (naturals (map value rows)) k j
  set-count = ap naturals (map-set value rows k number) ∙ map-set unsigned_abs (map value rows) k (value number) ∙
      ap (λ z. set (naturals (map value rows)) k (unsigned_abs z)) is

  pub told-more : AreNonNegative (map value rows) → AreNonNegative (map value (set rows k number))
  told-more told = ap (map pos) set-count ∙ map-set pos (naturals (map value rows)) k j ∙
      ap (λ zs. set zs k (pos j)) told ∙ ap (λ z. set (map value rows) k z) (sym is) ∙ sym (map-set value rows k number)

pub count-length : {X : Type 0} (value : X → ℤ) (rows : List X) → length (naturals (map value rows)) ≡ length rows
count-length value rows = length-map (map value rows) unsigned_abs ∙ length-map rows value

-- a place before the end
pub in-range : (j n m : ℕ) → j < n → n ≡ m → j < m
in-range j n m l e = omega (arith, l, e)

pub pos-below : (j n : ℕ) → j < n → pos j <ℤ pos n
pos-below j n l = omega (arith, ints, l)

-- a length fits into a usize
pub usize-fits : (z : ℤ) (n : ℕ) → z ≡ pos n → n < 2 ^ 64 → FitsUnsignedBits 64 z
usize-fits z n is few = subst (FitsUnsignedBits 64) (sym is) few

-- the counts that usizes are
pub counts-same : (rows : List ℕ) → naturals (map (λ x. pos x) rows) ≡ rows
counts-same [] = refl
counts-same (row ∷ rows) = ap (λ xs. row ∷ xs) (counts-same rows)
