-- Laws of the tests, counts and sums over the numbers below a bound.
use Rattle.std.proofs.Common.{ℕ, zero, suc, Bool, true, false, ◌≡◌, ◌≢◌, ◌<◌, ◌≤◌, ◌+◌, ◌-◌, ◌&&◌, ◌||◌, not, cond, inl, inr, refl, sym}
use Rattle.std.proofs.Common.{◌∙◌, ap, subst, arith, Option, None, Some}
use Rattle.std.proofs.lemmas.Bool.{and_parts, or_cases, and_from, or_left, or_right, cases_eq, cases_Bool, true≢false}
use Rattle.amd_model.specs.Below.{any_below, all_below, sum_below, count_below}

-- a test that is both true and false gives anything
pub clash : {b : Bool} {P : Type 0} → b ≡ true → b ≡ false → P
clash t f = absurd (true≢false (sym t ∙ f))

-- and there is none
pub not_both : (b : Bool) → (b && not b) ≡ false
not_both true = refl
not_both false = refl

-- what holds of no number that is there holds of none alone
pub only_none : (P : Option ℕ → Type 0) → ((q : ℕ) → P (Some q) → ⊥) → (v : Option ℕ) → P v → v ≡ None
only_none P never None h = refl
only_none P never (Some q) h = absurd (never q h)

pub any_from : (n : ℕ) (p : ℕ → Bool) (k : ℕ) → k < n → p k ≡ true → any_below n p ≡ true
unfolding any_below
any_from zero p k h e = absurd (omega arith)
any_from (suc n) p k h e = elim (cases_eq k n) [
  | inl same ↦ or_left (p n) (any_below n p) (rw same at e)
  | inr other ↦ or_right (p n) (any_below n p) (any_from n p k (omega arith) e)
]

pub any_gives : (n : ℕ) (p : ℕ → Bool) → any_below n p ≡ true → (k : ℕ) × (k < n) × (p k ≡ true)
unfolding any_below
any_gives zero p e = absurd (true≢false (sym e))
any_gives (suc n) p e = elim (or_cases (p n) (any_below n p) e) [
  | inl here ↦ (n, omega arith, here)
  | inr there ↦ let r = any_gives n p there in (r.0, omega (arith, r.1), r.2)
]

pub any_none : (n : ℕ) (p : ℕ → Bool) → any_below n p ≡ false → (k : ℕ) → k < n → p k ≡ false
any_none n p e k h = elim (cases_Bool (p k)) [
  | inl yes' ↦ absurd (true≢false (sym (any_from n p k h yes') ∙ e))
  | inr no' ↦ no'
]

pub none_any : (n : ℕ) (p : ℕ → Bool) → ((k : ℕ) → k < n → p k ≡ true → ⊥) → any_below n p ≡ false
none_any n p f = elim (cases_Bool (any_below n p)) [
  | inl yes' ↦ (let r = any_gives n p yes' in absurd (f r.0 r.1 r.2))
  | inr no' ↦ no'
]

pub all_from : (n : ℕ) (p : ℕ → Bool) → ((k : ℕ) → k < n → p k ≡ true) → all_below n p ≡ true
unfolding all_below
all_from zero p f = refl
all_from (suc n) p f = and_from (p n) (all_below n p) (f n (omega arith)) (all_from n p (λ k h. f k (omega arith)))

pub all_gives : (n : ℕ) (p : ℕ → Bool) → all_below n p ≡ true → (k : ℕ) → k < n → p k ≡ true
unfolding all_below
all_gives zero p e k h = absurd (omega arith)
all_gives (suc n) p e k h = let parts = and_parts (p n) (all_below n p) e in elim (cases_eq k n) [
  | inl same ↦ rw same parts.0
  | inr other ↦ all_gives n p parts.1 k (omega arith)
]

pub sum_mono : (n : ℕ) (f g : ℕ → ℕ) → ((k : ℕ) → k < n → f k ≤ g k) → sum_below n f ≤ sum_below n g
unfolding sum_below
sum_mono zero f g h = omega arith
sum_mono (suc n) f g h = let here : f n ≤ g n = h n (omega arith) in
    let there : sum_below n f ≤ sum_below n g = sum_mono n f g (λ k l. h k (omega arith)) in omega arith

pub sum_plus : (n : ℕ) (f g : ℕ → ℕ) → sum_below n (λ k. f k + g k) ≡ sum_below n f + sum_below n g
unfolding sum_below
sum_plus zero f g = refl
sum_plus (suc n) f g = let there = sum_plus n f g in omega (arith, there)

pub sum_same : (n : ℕ) (f g : ℕ → ℕ) → ((k : ℕ) → k < n → f k ≡ g k) → sum_below n f ≡ sum_below n g
unfolding sum_below
sum_same zero f g h = refl
sum_same (suc n) f g h = let here : f n ≡ g n = h n (omega arith) in
    let there : sum_below n f ≡ sum_below n g = sum_same n f g (λ k l. h k (omega arith)) in omega arith

pub sum_zero : (n : ℕ) (f : ℕ → ℕ) → ((k : ℕ) → k < n → f k ≡ 0) → sum_below n f ≡ 0
unfolding sum_below
sum_zero zero f z = refl
sum_zero (suc n) f z = let here : f n ≡ 0 = z n (omega arith) in let rest : sum_below n f ≡ 0 = sum_zero n f (λ k l. z k (omega arith)) in
    omega arith

-- two sums whose terms differ at one number only
pub sum_at : (n : ℕ) (f h : ℕ → ℕ) (c : ℕ) → c < n → ((k : ℕ) → k < n → k ≢ c → f k ≡ h k) → sum_below n f + h c ≡ sum_below n h + f c
unfolding sum_below
sum_at zero f h c l same = absurd (omega arith)
sum_at (suc n) f h c l same = elim (cases_eq c n) [
  | inl q ↦ (let rest : sum_below n f ≡ sum_below n h = sum_same n f h (λ k lk. same k (omega arith) (λ e. omega arith)) in
      let a : f c ≡ f n = ap f q in let b : h c ≡ h n = ap h q in omega arith)
  | inr ne ↦ (let here : f n ≡ h n = same n (omega arith) (λ e. ne (sym e)) in
      let there : sum_below n f + h c ≡ sum_below n h + f c = sum_at n f h c (omega arith) (λ k lk off. same k (omega arith) off) in
      omega arith)
]

-- the sum over the numbers is at least each term
pub term_le_sum : (n : ℕ) (f : ℕ → ℕ) (k : ℕ) → k < n → f k ≤ sum_below n f
unfolding sum_below
term_le_sum zero f k h = absurd (omega arith)
term_le_sum (suc n) f k h = elim (cases_eq k n) [
  | inl same ↦ (let e : f k ≡ f n = ap f same in omega arith)
  | inr other ↦ (let there : f k ≤ sum_below n f = term_le_sum n f k (omega arith) in omega arith)
]

-- at most n of n numbers pass
pub count_most : (n : ℕ) (p : ℕ → Bool) → count_below n p ≤ n
unfolding sum_below count_below
count_most zero p = omega arith
count_most (suc n) p = let rest : count_below n p ≤ n = count_most n p in one (p n) rest
  where
    one : (b : Bool) → count_below n p ≤ n → cond b 1 0 + count_below n p ≤ suc n
    one true rest = omega arith
    one false rest = omega arith

pub count_mono : (n : ℕ) (p q : ℕ → Bool) → ((k : ℕ) → k < n → p k ≡ true → q k ≡ true) → count_below n p ≤ count_below n q
unfolding count_below
count_mono n p q h = sum_mono n (λ k. cond (p k) 1 0) (λ k. cond (q k) 1 0) (λ k l. elim (cases_Bool (p k)) [
  | inl yes' ↦ rw (yes', h k l yes') (omega arith)
  | inr no' ↦ rw no' (omega arith)
])

pub count_same : (n : ℕ) (p q : ℕ → Bool) → ((k : ℕ) → k < n → p k ≡ q k) → count_below n p ≡ count_below n q
unfolding count_below
count_same n p q h = sum_same n (λ k. cond (p k) 1 0) (λ k. cond (q k) 1 0) (λ k l. ap (λ b. cond b 1 0) (h k l))

pub count_zero : (n : ℕ) (p : ℕ → Bool) → ((k : ℕ) → k < n → p k ≡ false) → count_below n p ≡ 0
unfolding count_below
count_zero n p z = sum_zero n (λ k. cond (p k) 1 0) (λ k l. ap (λ b. cond b 1 0) (z k l))

pub count_none : (n : ℕ) → count_below n (λ b. false) ≡ 0
count_none n = count_zero n (λ b. false) (λ k l. refl)

-- a union counts a number once at most
pub or_le : (a b : Bool) → cond (a || b) 1 0 ≤ cond a 1 0 + cond b 1 0
or_le true true = omega arith
or_le true false = omega arith
or_le false true = omega arith
or_le false false = omega arith

-- a union is at most the sum
pub count_or : (n : ℕ) (p q : ℕ → Bool) → count_below n (λ k. p k || q k) ≤ count_below n p + count_below n q
unfolding count_below
count_or n p q = rw (← sum_plus n (λ k. cond (p k) 1 0) (λ k. cond (q k) 1 0))
    (sum_mono n (λ k. cond (p k || q k) 1 0) (λ k. cond (p k) 1 0 + cond (q k) 1 0) (λ k l. or_le (p k) (q k)))

split_at : (a b : Bool) → cond a 1 0 ≡ cond (a && b) 1 0 + cond (a && not b) 1 0
split_at true true = refl
split_at true false = refl
split_at false true = refl
split_at false false = refl

-- a set is parted by a test
pub count_split : (n : ℕ) (p q : ℕ → Bool) → count_below n p ≡ count_below n (λ k. p k && q k) + count_below n (λ k. p k && not (q k))
unfolding count_below
count_split n p q = rw (← sum_plus n (λ k. cond (p k && q k) 1 0) (λ k. cond (p k && not (q k)) 1 0))
    (sum_same n (λ k. cond (p k) 1 0) (λ k. cond (p k && q k) 1 0 + cond (p k && not (q k)) 1 0) (λ k l. split_at (p k) (q k)))

guarded : (n : ℕ) (b : Bool) (q : ℕ → Bool) → count_below n (λ v. b && q v) ≤ cond b (count_below n q) 0
guarded n true q = omega arith
guarded n false q = let e = count_none n in omega (arith, e)

-- a union over the numbers that pass is at most the sum of the sizes
pub count_union : (m n : ℕ) (h : ℕ → Bool) (q : ℕ → ℕ → Bool) →
    count_below n (λ v. any_below m (λ e. h e && q e v)) ≤ sum_below m (λ e. cond (h e) (count_below n (q e)) 0)
unfolding any_below sum_below
count_union zero n h q = let e = count_none n in omega (arith, e)
count_union (suc m) n h q =
    let step : count_below n (λ v. (h m && q m v) || any_below m (λ e. h e && q e v)) ≤ count_below n (λ v. h m && q m v) + count_below n
    (λ v. any_below m (λ e. h e && q e v))
    = count_or n (λ v. h m && q m v) (λ v. any_below m (λ e. h e && q e v)) in
    let there : count_below n (λ v. any_below m (λ e. h e && q e v)) ≤ sum_below m (λ e. cond (h e) (count_below n (q e)) 0) =
    count_union m n h q in
    let here : count_below n (λ v. h m && q m v) ≤ cond (h m) (count_below n (q m)) 0 = guarded n (h m) (q m) in
    omega arith

-- a set with a member has a size
pub count_pos : (n : ℕ) (p : ℕ → Bool) (k : ℕ) → k < n → p k ≡ true → 0 < count_below n p
unfolding count_below
count_pos n p k l e = let t : cond (p k) 1 0 ≤ sum_below n (λ k. cond (p k) 1 0) = term_le_sum n (λ k. cond (p k) 1 0) k l in
    let one : 1 ≤ sum_below n (λ k. cond (p k) 1 0) = subst (λ b. cond b 1 0 ≤ sum_below n (λ k. cond (p k) 1 0)) e t in omega arith

-- a set that lies in another has the rest as its complement there
pub count_minus : (n : ℕ) (p q : ℕ → Bool) → ((k : ℕ) → k < n → q k ≡ true → p k ≡ true) →
    count_below n (λ k. p k && not (q k)) ≡ count_below n p - count_below n q
count_minus n p q inside =
    let split = count_split n p q in
    let same : count_below n (λ k. p k && q k) ≡ count_below n q =
    count_same n (λ k. p k && q k) q (λ k l. both (p k) (q k) (inside k l)) in
    omega (arith, split)
  where
    both : (a b : Bool) → (b ≡ true → a ≡ true) → (a && b) ≡ b
    both true b f = refl
    both false true f = f refl
    both false false f = refl

-- a partial sum is at most a longer one
pub sum_stretch : (d i : ℕ) (f : ℕ → ℕ) → sum_below i f ≤ sum_below (i + d) f
unfolding sum_below
sum_stretch zero i f = (let e : i + 0 ≡ i = omega arith in rw e (omega arith))
sum_stretch (suc d) i f = (let e : i + suc d ≡ suc (i + d) = omega arith in let w = sum_stretch d i f in rw e (omega (arith, w)))

-- one term more than a partial sum is at most the sum
pub sum_upto : (i n : ℕ) (f : ℕ → ℕ) → i < n → f i + sum_below i f ≤ sum_below n f
unfolding sum_below
sum_upto i n f h = (let e : suc i + (n - suc i) ≡ n = omega arith in
    subst (λ z. sum_below (suc i) f ≤ sum_below z f) e (sum_stretch (n - suc i) (suc i) f))
