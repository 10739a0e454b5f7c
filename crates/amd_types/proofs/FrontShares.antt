-- The shares of a front by the terms that the code computes. Those of a small front fit; of another one each is exact, or it and the true
-- share pass the greatest count.
use Rattle.std.proofs.Common.{ℕ, zero, suc, ◌≡◌, ◌+◌, ◌-◌, ◌*◌, ◌/◌, ◌^◌, ◌≤◌, min, ap, refl, arith}
use Rattle.std.proofs.lemmas.Nat.{mul-le}
use Rattle.amd_model.specs.Below.{sum_below}
use Rattle.amd_model.specs.Figures.{front_sum, entries, ldl_steps, lu_steps, cut}
use Rattle.amd_model.proofs.Figures.Sums.{entries_sum, entries_closed, lu_sum, ldl_closed}

-- the product of a number and the one below it is even
pairs_twice : (l : ℕ) → 2 * (suc l * l / 2) ≡ suc l * l
pairs_twice l = let h = entries_sum (suc l) 0 in omega (arith, h)

-- the squares below a number: a third of a product that is exact
squares : (l p : ℕ) → 2 * p ≡ suc l * l → p * (2 * suc l - 1) / 3 ≡ front_sum lu_steps (suc l) 0
squares l p h =
    let odd : 2 * suc l - 1 ≡ 2 * l + 1 = omega arith in
    let sum = lu_sum (suc l) 0 in
    let twice : 2 * p * (2 * l + 1) ≡ suc l * l * (2 * l + 1) = ap (λ k. k * (2 * l + 1)) h in
    rw odd (omega (arith, sum, twice))

lu_parts : (l r : ℕ) → front_sum lu_steps (suc l) r ≡ suc l * r * (r + l) + suc l * l / 2 * (2 * suc l - 1) / 3
lu_parts l r =
    let below : suc l * l / 2 * (2 * suc l - 1) / 3 ≡ front_sum lu_steps (suc l) 0 = squares l (suc l * l / 2) (pairs_twice l) in
    let here = lu_sum (suc l) r in
    let there = lu_sum (suc l) 0 in
    rw below (omega (arith, here, there))

-- the shares; that of the entries is `entries_closed`
pub lu_form : (f r : ℕ) → front_sum lu_steps f r ≡ f * r * (r + (f - 1)) + f * (f - 1) / 2 * (2 * f - 1) / 3
lu_form zero r = let h = lu_sum 0 r in omega (arith, h)
lu_form (suc l) r = let last : suc l - 1 ≡ l = omega arith in rw last (lu_parts l r)

pub ldl_form : (f r : ℕ) → front_sum ldl_steps f r ≡
    (f * r * (r + (f - 1)) + f * (f - 1) / 2 * (2 * f - 1) / 3 + (f * r + f * (f - 1) / 2)) / 2
ldl_form f r = rw (ldl_closed f r, lu_form f r, entries_closed f r)

-- the terms of a small front are far below the greatest count
module _ (f : ℕ) (few : f ≤ 2 ^ 20) where
  pub pairs_most : f * (f - 1) / 2 ≤ 2 ^ 39
  pairs_most = let h = mul-le f (f - 1) (2 ^ 20) (2 ^ 20) few (omega arith) in omega (arith, h)

  pub squares_most : f * (f - 1) / 2 * (2 * f - 1) ≤ 2 ^ 60
  squares_most = mul-le (f * (f - 1) / 2) (2 * f - 1) (2 ^ 39) (2 ^ 21) pairs_most (omega arith)

  pub border_most : (r : ℕ) → r ≤ 2 ^ 20 → f * r ≤ 2 ^ 40
  border_most r few_outside = mul-le f r (2 ^ 20) (2 ^ 20) few few_outside

  pub steps_most : (r : ℕ) → r ≤ 2 ^ 20 → f * r * (r + (f - 1)) ≤ 2 ^ 61
  steps_most r few_outside = mul-le (f * r) (r + (f - 1)) (2 ^ 40) (2 ^ 21) (border_most r few_outside) (omega arith)

-- a sum, a third and a half that saturate are cut as the true figure is
lu_cut : (a b : ℕ) → cut (min (min a (2 ^ 128 - 1) + min b (2 ^ 128 - 1) / 3) (2 ^ 128 - 1)) ≡ cut (a + b / 3)
unfolding cut
lu_cut a b = omega arith

ldl_cut : (a b q : ℕ) →
    cut (min (min (min a (2 ^ 128 - 1) + min b (2 ^ 128 - 1) / 3) (2 ^ 128 - 1) + min q (2 ^ 128 - 1)) (2 ^ 128 - 1) / 2) ≡ cut
    ((a + b / 3 + q) / 2)
unfolding cut
ldl_cut a b q = omega arith

lnz_cut : (q : ℕ) → cut (min q (2 ^ 128 - 1)) ≡ cut q
unfolding cut
lnz_cut q = omega arith

-- the three shares, as the code computes them in 128 bits
pub lnz_share : (f r : ℕ) → cut (min (f * r + f * (f - 1) / 2) (2 ^ 128 - 1)) ≡ cut (front_sum entries f r)
lnz_share f r = rw (entries_closed f r) (lnz_cut (f * r + f * (f - 1) / 2))

pub lu_share : (f r : ℕ) →
    cut (min (min (f * r * (r + (f - 1))) (2 ^ 128 - 1) + min (f * (f - 1) / 2 * (2 * f - 1)) (2 ^ 128 - 1) / 3) (2 ^ 128 - 1)) ≡ cut
    (front_sum lu_steps f r)
lu_share f r = rw (lu_form f r) (lu_cut (f * r * (r + (f - 1))) (f * (f - 1) / 2 * (2 * f - 1)))

pub ldl_share : (f r : ℕ) →
    cut (min (min (min (f * r * (r + (f - 1))) (2 ^ 128 - 1) + min (f * (f - 1) / 2 * (2 * f - 1)) (2 ^ 128 - 1) / 3) (2 ^ 128 - 1) + min
    (f * r + f * (f - 1) / 2) (2 ^ 128 - 1)) (2 ^ 128 - 1) / 2) ≡ cut (front_sum ldl_steps f r)
ldl_share f r = rw (ldl_form f r) (ldl_cut (f * r * (r + (f - 1))) (f * (f - 1) / 2 * (2 * f - 1)) (f * r + f * (f - 1) / 2))

-- a front with no rows has no shares
pub none : (share : ℕ → ℕ) (f r : ℕ) → f ≡ 0 → 0 ≡ cut (front_sum share f r)
unfolding cut front_sum sum_below
none share zero r e = refl
none share (suc l) r e = absurd (omega (arith, e))
