-- Sums and counts over the numbers below a bound, one number more.
use Rattle.std.proofs.Common.{◌≡◌, ◌+◌, ℕ, suc, Bool, cond, refl, sym, ap, arith}
use Rattle.amd_model.specs.Below.{count_below, sum_below}

pub sum-none : (f : ℕ → ℕ) → sum_below 0 f ≡ 0
unfolding sum_below
sum-none f = refl

pub sum-next : (f : ℕ → ℕ) (k : ℕ) → sum_below (k + 1) f ≡ f k + sum_below k f
unfolding sum_below
sum-next f k = ap (λ n. sum_below n f) (let e : k + 1 ≡ suc k = omega arith in e)

pub count-none : (p : ℕ → Bool) → count_below 0 p ≡ 0
unfolding count_below sum_below
count-none p = refl

pub count-next : (p : ℕ → Bool) (k : ℕ) (b : Bool) → p k ≡ b → count_below (k + 1) p ≡ cond b 1 0 + count_below k p
unfolding count_below sum_below
count-next p k b h = (let e : k + 1 ≡ suc k = omega arith in rw (e, sym h) refl)
