-- Counts that differ at one number, counts of few numbers, and the pigeonhole principle.
use Rattle.std.proofs.Common.{ℕ, zero, suc, Bool, true, false, ◌≡◌, ◌≢◌, ◌<◌, ◌≤◌, ◌+◌, ◌&&◌, ◌||◌, not, cond, inl, inr, refl, sym, ap}
use Rattle.std.proofs.Common.{arith}
use Rattle.std.specs.Prelude.{◌==◌}
use Rattle.std.proofs.lemmas.Bool.{and_from, cases_eq, cases_Bool, true≢false, eqb-true, eq-eqb, ne_eqb, not_from_false}
use Rattle.amd_model.specs.Below.{any_below, sum_below, count_below}
use Rattle.amd_model.proofs.Counting.Below.{none_any, count_pos, sum_at, count_most, count_zero}

pub zero_counted : (n : ℕ) (p : ℕ → Bool) → count_below n p ≡ 0 → (k : ℕ) → k < n → p k ≡ false
zero_counted n p z k l = elim (cases_Bool (p k)) [
  | inl yes' ↦ (let c : 0 < count_below n p = count_pos n p k l yes' in absurd (omega arith))
  | inr no' ↦ no'
]

-- a set without one number, and that number
pub count_drop : (n : ℕ) (p : ℕ → Bool) (x : ℕ) → x < n → count_below n p ≡ count_below n (λ k. p k && not (k == x)) + cond (p x) 1 0
unfolding count_below
count_drop n p x l =
    let at = sum_at n (λ k. cond (p k) 1 0) (λ k. cond (p k && not (k == x)) 1 0) x l
    (λ k lk ne. ap (λ b. cond b 1 0) (apart (p k) (k == x) (ne_eqb k x ne))) in
    let gap = here (p x) (x == x) (eq-eqb x x refl) in
    omega (arith, at, gap)
  where
    apart : (a b : Bool) → b ≡ false → a ≡ (a && not b)
    apart true true q = absurd (true≢false q)
    apart true false q = refl
    apart false b q = refl

    here : (a b : Bool) → b ≡ true → cond a 1 0 ≡ cond (a && not b) 1 0 + cond a 1 0
    here true true q = refl
    here true false q = absurd (true≢false (sym q))
    here false b q = refl

-- numbers that all are one number count for one at most
pub count_one : (n : ℕ) (p : ℕ → Bool) (x : ℕ) → ((k : ℕ) → k < n → p k ≡ true → k ≡ x) → count_below n p ≤ 1
unfolding count_below sum_below
count_one zero p x all = omega arith
count_one (suc n) p x all = elim (cases_Bool (p n)) [
  | inl yes' ↦ (
      let rest : count_below n p ≡ 0 = count_zero n p (λ k l. elim (cases_Bool (p k)) [
        | inl both ↦ absurd (let a = all k (omega arith) both in let b = all n (omega arith) yes' in omega (arith, a, b))
        | inr only' ↦ only'
      ]) in
      let here : cond {A = ℕ} (p n) 1 0 ≡ 1 = ap (λ b. cond b 1 0) yes' in omega arith)
  | inr no' ↦ (
      let rest : count_below n p ≤ 1 = count_one n p x (λ k l. all k (omega arith)) in
      let here : cond {A = ℕ} (p n) 1 0 ≡ 0 = ap (λ b. cond b 1 0) no' in omega arith)
]

-- where one at most is counted, two that pass are the same
pub one_counted : (n : ℕ) (p : ℕ → Bool) → count_below n p ≤ 1 → (j k : ℕ) → j < n → k < n → p j ≡ true → p k ≡ true → j ≡ k
one_counted n p most j k lj lk pj pk = elim (cases_eq j k) [
  | inl q ↦ q
  | inr ne ↦ absurd (
      let drop : count_below n p ≡ count_below n (λ i. p i && not (i == j)) + cond (p j) 1 0 = count_drop n p j lj in
      let one : cond {A = ℕ} (p j) 1 0 ≡ 1 = ap (λ b. cond b 1 0) pj in
      let more : 0 < count_below n (λ i. p i && not (i == j)) =
      count_pos n (λ i. p i && not (i == j)) k lk
      (and_from (p k) (not (k == j)) pk (not_from_false (k == j) (ne_eqb k j (λ e. ne (sym e))))) in
      omega arith)
]

-- numbers below n that differ are as many as their places
count_range : (n m : ℕ) (f : ℕ → ℕ) → ((k : ℕ) → k < m → f k < n) → ((j k : ℕ) → j < k → k < m → f j ≢ f k) →
    count_below n (λ v. any_below m (λ k. f k == v)) ≡ m
unfolding count_below any_below
count_range n zero f small differ = count_zero n (λ v. false) (λ k l. refl)
count_range n (suc m) f small differ =
    let rest : count_below n (λ v. any_below m (λ k. f k == v)) ≡ m =
    count_range n m f (λ k l. small k (omega arith)) (λ j k l lk. differ j k l (omega arith)) in
    let unmet : any_below m (λ k. f k == f m) ≡ false = none_any m (λ k. f k == f m)
    (λ k l e. differ k m l (omega arith) (eqb-true (f k) (f m) e)) in
    let step : count_below n (λ v. (f m == v) || any_below m (λ k. f k == v)) ≡ count_below n (λ v. any_below m (λ k. f k == v)) + 1
    = (let at = sum_at n (λ v. cond ((f m == v) || any_below m (λ k. f k == v)) 1 0) (λ v. cond (any_below m (λ k. f k == v)) 1 0) (f m)
    (small m (omega arith))
    (λ v l ne. ap (λ b. cond b 1 0) (skip (f m == v) (any_below m (λ k. f k == v)) (ne_eqb (f m) v (λ e. ne (sym e))))) in
    let gap = meet (f m == f m) (any_below m (λ k. f k == f m)) (eq-eqb (f m) (f m) refl) unmet in omega (arith, at, gap)) in
    omega arith
  where
    skip : (a b : Bool) → a ≡ false → (a || b) ≡ b
    skip true b q = absurd (true≢false q)
    skip false b q = refl

    meet : (a b : Bool) → a ≡ true → b ≡ false → cond (a || b) 1 0 ≡ cond b 1 0 + 1
    meet true true q r = absurd (true≢false r)
    meet true false q r = refl
    meet false b q r = absurd (true≢false (sym q))

pub pigeonhole : (n m : ℕ) (f : ℕ → ℕ) → ((k : ℕ) → k < m → f k < n) → ((j k : ℕ) → j < k → k < m → f j ≢ f k) → m ≤ n
pigeonhole n m f small differ =
    let all : count_below n (λ v. any_below m (λ k. f k == v)) ≡ m = count_range n m f small differ in
    let most : count_below n (λ v. any_below m (λ k. f k == v)) ≤ n = count_most n (λ v. any_below m (λ k. f k == v)) in omega arith
