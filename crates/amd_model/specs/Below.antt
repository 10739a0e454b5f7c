-- Tests, counts and sums over the numbers below a bound: the sets of rows that the other definitions speak of are such
-- tests.
use Rattle.std.specs.Prelude.{ℕ, zero, suc, Bool, true, false, ◌&&◌, ◌||◌, ◌+◌, cond, List, [], ◌∷◌, ◌++◌}

-- some number below n passes
unfoldable pub any_below : ℕ → (ℕ → Bool) → Bool
any_below zero p = false
any_below (suc n) p = p n || any_below n p

-- each number below n passes
unfoldable pub all_below : ℕ → (ℕ → Bool) → Bool
all_below zero p = true
all_below (suc n) p = p n && all_below n p

-- the sum of f over the numbers below n
unfoldable pub sum_below : ℕ → (ℕ → ℕ) → ℕ
sum_below zero f = 0
sum_below (suc n) f = f n + sum_below n f

-- how many numbers below n pass
unfoldable pub count_below : ℕ → (ℕ → Bool) → ℕ
count_below n p = sum_below n (λ k. cond (p k) 1 0)

-- the numbers below n that pass, rising
unfoldable pub list_below : ℕ → (ℕ → Bool) → List ℕ
list_below zero p = []
list_below (suc n) p = list_below n p ++ cond (p n) (n ∷ []) []
