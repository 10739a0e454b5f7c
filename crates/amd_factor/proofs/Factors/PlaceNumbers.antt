-- Lists of places as numbers of an integer type, and parts of such lists.
use Rattle.std.proofs.Common.{ℕ, ℤ, pos, ◌≡◌, ◌<◌, ◌++◌, sym, ◌∙◌, ap, arith, List, [], ◌∷◌, map, length, take, drop, set, ◌-◌}
use Rattle.std.specs.Prelude.{slice_index, slice_range, unsigned_abs, Contains}
use Rattle.std.proofs.lemmas.List.{length-map, get_or-map, map-append, take-map, drop-map}
use Rattle.std.proofs.lemmas.List.Elements.{Contains-get_or}
use Rattle.amd_model.specs.Input.Columns.{at}
use Rattle.amd_types.specs.Naturals.{naturals}
use Rattle.amd_count_laws.proofs.CountsBack.{counts_back}
use Rattle.amd_factor.specs.Numbers.{AreNonNegative}

pub are_counts : (xs : List ℕ) → AreNonNegative (map pos xs)
are_counts xs = ap (map pos) (counts_back xs)

-- a number of a list of counts
pub number_at : (zs : List ℤ) (k : ℕ) → AreNonNegative zs → k < length zs → at zs k ≡ pos (slice_index (naturals zs) k)
number_at zs k h l = ap (λ ys. at ys k) (sym h) ∙
    get_or-map pos (naturals zs) k 0 (pos 0) (let n = length-map zs unsigned_abs in omega (arith, n, l))

-- numbers that are these places are counts, and are them alone
pub are_of : (zs : List ℤ) (xs : List ℕ) → zs ≡ map pos xs → AreNonNegative zs
are_of zs xs e = ap (λ ys. map pos (naturals ys)) e ∙ are_counts xs ∙ sym e

pub counts_of : (zs : List ℤ) (xs : List ℕ) → zs ≡ map pos xs → naturals zs ≡ xs
counts_of zs xs e = ap naturals e ∙ counts_back xs

module _ {N : Type 0} (value : N → ℤ) where
  pub counts_long : (xs : List N) → length (naturals (map value xs)) ≡ length xs
  counts_long xs = length-map (map value xs) unsigned_abs ∙ length-map xs value

  pub counts_take : (n : ℕ) (xs : List N) → naturals (map value (take n xs)) ≡ take n (naturals (map value xs))
  counts_take n xs = ap naturals (sym (take-map value n xs)) ∙ sym (take-map unsigned_abs n (map value xs))

  pub counts_drop : (n : ℕ) (xs : List N) → naturals (map value (drop n xs)) ≡ drop n (naturals (map value xs))
  counts_drop n xs = ap naturals (sym (drop-map value n xs)) ∙ sym (drop-map unsigned_abs n (map value xs))

  pub counts_range : (xs : List N) (i j : ℕ) → naturals (map value (slice_range xs i j)) ≡ slice_range (naturals (map value xs)) i j
  counts_range xs i j = counts_take (j - i) (drop i xs) ∙ ap (take (j - i)) (counts_drop i xs)

  pub are_take : (n : ℕ) (xs : List N) → AreNonNegative (map value xs) → AreNonNegative (map value (take n xs))
  are_take n xs h = are_of (map value (take n xs)) (take n (naturals (map value xs)))
      (sym (take-map value n xs) ∙ ap (take n) (sym h) ∙ take-map pos n (naturals (map value xs)))

  pub are_drop : (n : ℕ) (xs : List N) → AreNonNegative (map value xs) → AreNonNegative (map value (drop n xs))
  are_drop n xs h = are_of (map value (drop n xs)) (drop n (naturals (map value xs)))
      (sym (drop-map value n xs) ∙ ap (drop n) (sym h) ∙ drop-map pos n (naturals (map value xs)))

  pub are_range : (xs : List N) (i j : ℕ) → AreNonNegative (map value xs) → AreNonNegative (map value (slice_range xs i j))
  are_range xs i j h = are_take (j - i) (drop i xs) (are_drop i xs h)

  -- what was written behind counts
  pub are_append : (xs ys : List N) (ps : List ℕ) → AreNonNegative (map value xs) → map value ys ≡ map pos ps →
      AreNonNegative (map value (xs ++ ys))
  are_append xs ys ps h e = are_of (map value (xs ++ ys)) (naturals (map value xs) ++ ps)
      (map-append value xs ys ∙ ap (λ zs. zs ++ map value ys) (sym h) ∙ ap (λ zs. map pos (naturals (map value xs)) ++ zs) e
      ∙ sym (map-append pos (naturals (map value xs)) ps))

  pub counts_append : (xs ys : List N) (ps : List ℕ) → map value ys ≡ map pos ps →
      naturals (map value (xs ++ ys)) ≡ naturals (map value xs) ++ ps
  counts_append xs ys ps e = ap naturals (map-append value xs ys) ∙ map-append unsigned_abs (map value xs) (map value ys)
      ∙ ap (λ zs. naturals (map value xs) ++ zs) (counts_of (map value ys) ps e)

  -- one of the places
  pub place_of : (xs : List N) (k : ℕ) → k < length xs → Contains (naturals (map value xs)) (slice_index (naturals (map value xs)) k)
  place_of xs k l = Contains-get_or (naturals (map value xs)) k 0 (let n = counts_long xs in omega (arith, n, l))

  -- one place alone, written
  pub written_alone : (xs : List N) (ps : List ℕ) (y : N) → length xs ≡ length ps → length ps ≡ 1 → value y ≡ pos (slice_index ps 0) →
      map value (set xs 0 y) ≡ map pos ps
  written_alone [] [] y e one number = absurd (omega (arith, one))
  written_alone [] (p ∷ ps) y e one number = absurd (omega (arith, e))
  written_alone (x ∷ xs) [] y e one number = absurd (omega (arith, one))
  written_alone (x ∷ []) (p ∷ []) y e one number = ap (λ z. z ∷ []) number
  written_alone (x ∷ []) (p ∷ q ∷ ps) y e one number = absurd (omega (arith, one))
  written_alone (x ∷ z ∷ xs) (p ∷ ps) y e one number = absurd (omega (arith, e, one))
