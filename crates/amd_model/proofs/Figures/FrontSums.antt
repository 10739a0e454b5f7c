-- Sums over fronts, and the greatest of several numbers.
use Rattle.std.proofs.Common.{ℕ, zero, suc, Bool, true, ◌≡◌, ◌<◌, ◌≤◌, ◌+◌, ◌-◌, ◌*◌, ◌/◌, cond, inl, inr, refl, sym, ◌∙◌, ap, arith}
use Rattle.std.proofs.lemmas.Bool.{cases_eq, cases_Bool, cond-true, cond-false}
use Rattle.amd_model.specs.Below.{sum_below}
use Rattle.amd_model.specs.Figures.{front_sum, entries, max_below}
use Rattle.amd_model.proofs.Counting.Below.{sum_mono}
use Rattle.amd_model.proofs.Figures.Sums.{entries_closed}

-- a sum of terms that are no less, and at one number greater by m, is greater by m
pub sum_more : (n : ℕ) (f h : ℕ → ℕ) (c m : ℕ) → c < n → ((k : ℕ) → k < n → f k ≤ h k) → f c + m ≤ h c → sum_below n f + m ≤ sum_below n h
unfolding sum_below
sum_more zero f h c m l le more = absurd (omega arith)
sum_more (suc n) f h c m l le more = elim (cases_eq c n) [
  | inl q ↦ (let rest : sum_below n f ≤ sum_below n h = sum_mono n f h (λ k lk. le k (omega arith)) in
      let a : f c ≡ f n = ap f q in let b : h c ≡ h n = ap h q in omega arith)
  | inr ne ↦ (let here : f n ≤ h n = le n (omega arith) in
      let there : sum_below n f + m ≤ sum_below n h = sum_more n f h c m (omega arith) (λ k lk. le k (omega arith)) more in omega arith)
]

-- a front with more rows in its block has a greater sum
pub front_grows : (share : ℕ → ℕ) (f m r : ℕ) → f ≤ m → front_sum share f r ≤ front_sum share m r
unfolding front_sum sum_below
front_grows share f zero r l = let e : f ≡ zero = omega arith in let q = ap (λ k. front_sum share k r) e in omega (arith, q)
front_grows share f (suc m) r l = elim (cases_eq f (suc m)) [
  | inl e ↦ (let q = ap (λ k. front_sum share k r) e in omega (arith, q))
  | inr ne ↦ (let h = front_grows share f m r (omega arith) in omega (arith, h))
]

pub front_more : (share : ℕ → ℕ) (f r : ℕ) → front_sum share (suc f) r ≡ share (r + f) + front_sum share f r
unfolding front_sum sum_below
front_more share f r = refl

-- the sum of one front more fits between two sums of the first numbers
pub front_fits : (f r m : ℕ) → r ≤ m → front_sum entries f r + front_sum entries m 0 ≤ front_sum entries (m + f) 0
unfolding front_sum entries sum_below
front_fits zero r m l = let e : m + zero ≡ m = omega arith in let q = ap (λ k. front_sum entries k 0) e in omega (arith, q)
front_fits (suc f) r m l = let e : m + suc f ≡ suc (m + f) = omega arith in let q = ap (λ k. front_sum entries k 0) e in
    let h = front_fits f r m l in omega (arith, q, h)

pub first_sums_rise : (m n : ℕ) → m ≤ n → front_sum entries m 0 ≤ front_sum entries n 0
first_sums_rise m n l = let h = front_fits (n - m) 0 m (omega arith) in let e : m + (n - m) ≡ n = omega arith in
    let q = ap (λ k. front_sum entries k 0) e in omega (arith, q, h)

pub first_sum : (n : ℕ) → front_sum entries n 0 ≡ n * (n - 1) / 2
first_sum n = let h = entries_closed n 0 in omega (arith, h)

-- the greatest is at least each number that passes, and the given one
pub max_term : (n : ℕ) (p : ℕ → Bool) (f : ℕ → ℕ) (d k : ℕ) → k < n → p k ≡ true → f k ≤ max_below n p f d
unfolding max_below
max_term zero p f d k l h = absurd (omega arith)
max_term (suc n) p f d k l h = elim (cases_eq k n) [
  | inl q ↦ (let a = cond-true (p n) (f n) 0 (ap p (sym q) ∙ h) in let b : f k ≡ f n = ap f q in omega (arith, a, b))
  | inr ne ↦ (let t = max_term n p f d k (omega arith) h in omega (arith, t))
]

pub max_base : (n : ℕ) (p : ℕ → Bool) (f : ℕ → ℕ) (d : ℕ) → d ≤ max_below n p f d
unfolding max_below
max_base zero p f d = omega arith
max_base (suc n) p f d = let t = max_base n p f d in omega (arith, t)

-- and no more than what bounds them all
pub max_most : (n : ℕ) (p : ℕ → Bool) (f : ℕ → ℕ) (d m : ℕ) → ((k : ℕ) → k < n → p k ≡ true → f k ≤ m) → d ≤ m → max_below n p f d ≤ m
unfolding max_below
max_most zero p f d m h l = l
max_most (suc n) p f d m h l =
    let t : max_below n p f d ≤ m = max_most n p f d m (λ k lk. h k (omega arith)) l in
    let here : cond (p n) (f n) 0 ≤ m = elim (cases_Bool (p n)) [
      | inl y ↦ (let a = cond-true (p n) (f n) 0 y in let b = h n (omega arith) y in omega (arith, a, b))
      | inr y ↦ (let a = cond-false (p n) (f n) 0 y in omega (arith, a))
    ] in omega arith
