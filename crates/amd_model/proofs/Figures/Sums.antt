-- The sums of a front in closed form.
use Rattle.std.proofs.Common.{ℕ, zero, suc, ◌≡◌, ◌+◌, ◌-◌, ◌*◌, ◌/◌, arith}
use Rattle.amd_model.specs.Below.{sum_below}
use Rattle.amd_model.specs.Figures.{front_sum, entries, ldl_steps, lu_steps}

pub entries_sum : (f r : ℕ) → 2 * front_sum entries f r + f ≡ 2 * (f * r) + f * f
unfolding front_sum entries sum_below
entries_sum zero r = omega arith
entries_sum (suc f) r = let h = entries_sum f r in omega (arith, h)

pub lu_sum : (f r : ℕ) → 6 * front_sum lu_steps f r + 6 * (r * f) + 3 * (f * f) ≡ 6 * (f * (r * r)) + 6 * (r * (f * f)) + 2 * (f * (f * f))
    + f
unfolding front_sum lu_steps sum_below
lu_sum zero r = omega arith
lu_sum (suc f) r = let h = lu_sum f r in omega (arith, h)

-- c (c + 1) is even
even : (c : ℕ) → (k : ℕ) × (c * (c + 1) ≡ 2 * k)
even zero = (0, omega arith)
even (suc c) = let h = even c in (h.0 + c + 1, omega (arith, h.1))

ldl_twice : (c : ℕ) → 2 * ldl_steps c ≡ c * c + c
unfolding ldl_steps
ldl_twice c = let h = even c in omega (arith, h.1)

pub ldl_sum : (f r : ℕ) → 2 * front_sum ldl_steps f r ≡ front_sum lu_steps f r + front_sum entries f r
unfolding front_sum lu_steps entries sum_below
ldl_sum zero r = omega arith
ldl_sum (suc f) r = let h = ldl_sum f r in let k = ldl_twice (r + f) in omega (arith, h, k)

-- the forms that the code computes
pub entries_closed : (f r : ℕ) → front_sum entries f r ≡ f * r + f * (f - 1) / 2
entries_closed zero r = let h = entries_sum 0 r in omega (arith, h)
entries_closed (suc f) r = let h = entries_sum (suc f) r in let e : suc f - 1 ≡ f = omega arith in
    let p : 2 * (suc f * r) + suc f * suc f ≡ 2 * (suc f * r) + suc f * f + suc f = omega arith in rw e (omega (arith, h, p))

pub lu_closed : (f r : ℕ) → front_sum lu_steps f r ≡ f * (r * r) + r * f * (f - 1) + (f - 1) * f * (2 * f - 1) / 6
lu_closed zero r = let h = lu_sum 0 r in omega (arith, h)
lu_closed (suc f) r = let h = lu_sum (suc f) r in let e : suc f - 1 ≡ f = omega arith in let d : 2 * suc f - 1 ≡ 2 * f + 1 = omega arith in
    let p : 6 * (r * (suc f * suc f)) ≡ 6 * (r * suc f * f) + 6 * (r * suc f) = omega arith in
    let q : 2 * (suc f * (suc f * suc f)) + suc f ≡ f * suc f * (2 * f + 1) + 3 * (suc f * suc f) = omega arith in
    rw (e, d) (omega (arith, h, p, q))

pub ldl_closed : (f r : ℕ) → front_sum ldl_steps f r ≡ (front_sum lu_steps f r + front_sum entries f r) / 2
ldl_closed f r = let h = ldl_sum f r in omega (arith, h)
