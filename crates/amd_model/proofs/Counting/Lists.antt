-- How many numbers of a list pass a test, against those below a bound, and against a rising list of places.
use Rattle.std.proofs.Common.{ℕ, zero, suc, Bool, true, false, ◌≡◌, ◌<◌, ◌≤◌, ◌+◌, ◌&&◌, ◌||◌, not, ◌==◌, ◌⊎◌, cond, inl, inr, refl, sym}
use Rattle.std.proofs.Common.{◌∙◌, ap, subst, arith, List, [], ◌∷◌, ◌++◌, length, slice_index, slice_index_or, Contains, count_by}
use Rattle.std.specs.List.Sorted.{IsStrictlyIncreasing}
use Rattle.std.proofs.lemmas.Bool.{cases_Bool, true≢false, cond-true, cond-false, and_parts, eq-eqb, eqb-true, not-true}
use Rattle.std.proofs.lemmas.List.Sums.{sum_by-cons, sum_by-append}
use Rattle.std.proofs.lemmas.List.Kept.{AllPairs-from_increasing}
use Rattle.amd_model.specs.Below.{sum_below, count_below}
use Rattle.amd_model.specs.Listing.{ListsEachRow}
use Rattle.amd_model.proofs.Counting.Below.{count_split, sum_zero, or_le}

pub count_cons : (q : ℕ → Bool) (x : ℕ) (xs : List ℕ) → count_by q (x ∷ xs) ≡ cond (q x) 1 0 + count_by q xs
count_cons q x xs = sum_by-cons (λ y. cond (q y) 1 0) x xs

pub count_here : (q : ℕ → Bool) (x : ℕ) (xs : List ℕ) → q x ≡ true → count_by q (x ∷ xs) ≡ suc (count_by q xs)
count_here q x xs h = count_cons q x xs ∙ ap (λ b. cond b 1 0 + count_by q xs) h ∙ omega arith

pub count_later : (q : ℕ → Bool) (x : ℕ) (xs : List ℕ) → count_by q xs ≤ count_by q (x ∷ xs)
count_later q x xs = let a = count_cons q x xs in omega (arith, a)

pub count_right : (q : ℕ → Bool) (xs ys : List ℕ) → count_by q ys ≤ count_by q (xs ++ ys)
count_right q xs ys = let a = sum_by-append (λ y. cond (q y) 1 0) xs ys in omega (arith, a)

one_test : (a b : Bool) → (a ≡ true → b ≡ true) → cond a 1 0 ≤ cond b 1 0
one_test true b h = rw (h refl) (omega arith)
one_test false b h = omega arith

pub count_weaker : (q r : ℕ → Bool) (xs : List ℕ) → ((x : ℕ) → q x ≡ true → r x ≡ true) → count_by q xs ≤ count_by r xs
count_weaker q r [] h = omega arith
count_weaker q r (x ∷ xs) h = let a = count_cons q x xs in let b = count_cons r x xs in let c = count_weaker q r xs h in
    let d = one_test (q x) (r x) (h x) in omega (arith, a, b, c, d)

pub count_either : (q r : ℕ → Bool) (xs : List ℕ) → count_by (λ x. q x || r x) xs ≤ count_by q xs + count_by r xs
count_either q r [] = omega arith
count_either q r (x ∷ xs) = let a = count_cons q x xs in let b = count_cons r x xs in let c = count_cons (λ x. q x || r x) x xs in
    let d = or_le (q x) (r x) in let e = count_either q r xs in omega (arith, a, b, c, d, e)

one_or_other : (a : Bool) → cond a 1 0 + cond (not a) 1 0 ≡ 1
one_or_other true = omega arith
one_or_other false = omega arith

pub count_both : (q : ℕ → Bool) (xs : List ℕ) → count_by q xs + count_by (λ x. not (q x)) xs ≡ length xs
count_both q [] = omega arith
count_both q (x ∷ xs) = let a = count_cons q x xs in let b = count_cons (λ x. not (q x)) x xs in let c = one_or_other (q x) in
    let d = count_both q xs in omega (arith, a, b, c, d)

pub both_below : (n : ℕ) (q : ℕ → Bool) → count_below n q + count_below n (λ x. not (q x)) ≡ n
unfolding count_below sum_below
both_below zero q = omega arith
both_below (suc n) q = let a = one_or_other (q n) in let b = both_below n q in omega (arith, a, b)

-- a number stands at one place at most
one_counted : (n : ℕ) (q : ℕ → Bool) (x : ℕ) → ((k : ℕ) → q k ≡ true → k ≡ x) → count_below n q ≤ cond (q x) 1 0
unfolding count_below sum_below
one_counted zero q x only = omega arith
one_counted (suc n) q x only = elim (cases_Bool (q n)) [
  | inl y ↦ (let e = only n y in
      let none : sum_below n (λ k. cond (q k) 1 0) ≡ 0 = sum_zero n (λ k. cond (q k) 1 0) (λ k l. elim (cases_Bool (q k)) [
        | inl t ↦ absurd (let i = only k t in omega arith)
        | inr f ↦ ap (λ b. cond b 1 0) f
      ]) in
      let a = cond-true {A = ℕ} (q n) 1 0 y in let b = cond-true {A = ℕ} (q x) 1 0 (ap q (sym e) ∙ y) in omega (arith, none, a, b))
  | inr f ↦ (let z = cond-false {A = ℕ} (q n) 1 0 f in let t = one_counted n q x only in omega (arith, z, t))
]

cons_cases : (x : ℕ) (xs : List ℕ) (v k : ℕ) → k < length (x ∷ xs) → slice_index_or (x ∷ xs) k v ≡ v → (x ≡ v) ⊎ Contains xs v
cons_cases x xs v zero l h = inl h
cons_cases x xs v (suc k) l h = inr (k, omega arith, h)

-- a list with each of the numbers that pass has no fewer places that pass
pub count_listed : (n : ℕ) (q : ℕ → Bool) (xs : List ℕ) → ((v : ℕ) → v < n → q v ≡ true → Contains xs v) → count_below n q ≤ count_by q xs
unfolding count_below
count_listed n q [] h = let z : count_below n q ≡ 0 = sum_zero n (λ k. cond (q k) 1 0) (λ k l. elim (cases_Bool (q k)) [
  | inl t ↦ absurd (let r = (h k l t).1 in omega arith)
  | inr f ↦ ap (λ b. cond b 1 0) f
]) in omega arith
count_listed n q (x ∷ xs) h =
    let here : ℕ → Bool = λ v. q v && v == x in
    let there : ℕ → Bool = λ v. q v && not (v == x) in
    let parts : count_below n q ≡ count_below n here + count_below n there = count_split n q (λ v. v == x) in
    let one : count_below n here ≤ cond (here x) 1 0 = one_counted n here x (λ k t. eqb-true k x (and_parts (q k) (k == x) t).1) in
    let is : cond (here x) 1 0 ≤ cond (q x) 1 0 = one_test (here x) (q x) (λ t. (and_parts (q x) (x == x) t).0) in
    let rest : count_below n there ≤ count_by there xs = count_listed n there xs (λ v l t. let p = and_parts (q v) (not (v == x)) t in
    let c = h v l p.0 in elim (cons_cases x xs v c.0 c.1 c.2) [
      | inl e ↦ absurd (true≢false (sym (eq-eqb v x (sym e)) ∙ not-true (v == x) p.1))
      | inr k ↦ k
    ]) in
    let less : count_by there xs ≤ count_by q xs = count_weaker there q xs (λ v t. (and_parts (q v) (not (v == x)) t).0) in
    let sum = count_cons q x xs in omega (arith, parts, one, is, rest, less, sum)

-- in a permutation no more places pass than numbers
pub count_permuted : (n : ℕ) (q : ℕ → Bool) (p : List ℕ) → ListsEachRow n p → count_by q p ≤ count_below n q
count_permuted n q p is =
    let a = count_both q p in let b = both_below n q in let c = count_listed n (λ x. not (q x)) p (λ v l t. is.all v l) in
    let d = is.places in omega (arith, a, b, c, d)

-- a place at which a number of the list passes, counted from a on
pub record PassesAt (q : ℕ → Bool) (xs : List ℕ) (a j : ℕ) : Type 0 where
  pub place : ℕ
  pub is : j ≡ a + place
  pub within : place < length xs
  pub passes : q (slice_index xs place) ≡ true

-- a place past the first one is a place of the rest
later_place : (q : ℕ → Bool) (x : ℕ) (xs : List ℕ) (a j k : ℕ) → a < j → j ≡ a + k → k < length (x ∷ xs) →
    q (slice_index (x ∷ xs) k) ≡ true → PassesAt q xs (suc a) j
later_place q x xs a j zero l e w t = absurd (omega arith)
later_place q x xs a j (suc k) l e w t = record { place = k; is = omega arith; within = omega arith; passes = t }

-- a rising list of such places is no longer than the number that pass
pub rising_bound : (q : ℕ → Bool) (xs : List ℕ) (a : ℕ) (column : List ℕ) →
    ((i j : ℕ) → i < j → j < length column → slice_index column i < slice_index column j) →
    ((m : ℕ) → m < length column → PassesAt q xs a (slice_index column m)) → length column ≤ count_by q xs
rising_bound q xs a [] up h = omega arith
rising_bound q [] a (j ∷ column) up h = absurd (let w = (h 0 (omega arith)).within in omega arith)
rising_bound q (x ∷ xs) a (j ∷ column) up h =
    first (h 0 (omega arith)).place refl
    (λ all. rising_bound q xs (suc a) column (λ i m l w. up (suc i) (suc m) (omega arith) (omega arith)) all)
    (λ all. rising_bound q xs (suc a) (j ∷ column) up all)
  where
    head : PassesAt q (x ∷ xs) a j
    head = h 0 (omega arith)

    over : (m : ℕ) → m < length column → j < slice_index column m
    over m l = up 0 (suc m) (omega arith) (omega arith)

    beyond : a < j → (m : ℕ) → m < length (j ∷ column) → a < slice_index (j ∷ column) m
    beyond b zero l = b
    beyond b (suc m) l = let u = over m (omega arith) in omega (arith, u, b)

    first : (k : ℕ) → (h 0 (omega arith)).place ≡ k → (((m : ℕ) → m < length column → PassesAt q xs (suc a) (slice_index column m)) →
        length column ≤ count_by q xs) →
        (((m : ℕ) → m < length (j ∷ column) → PassesAt q xs (suc a) (slice_index (j ∷ column) m)) → suc (length column) ≤ count_by q xs) →
        suc (length column) ≤ count_by q (x ∷ xs)
    first zero e tail whole =
        let t : q (slice_index (x ∷ xs) zero) ≡ true = subst (λ k. q (slice_index (x ∷ xs) k) ≡ true) e head.passes in
        let c = count_here q x xs t in let is = head.is in
        let s = tail (λ m l. let k = h (suc m) (omega arith) in let u = over m l in
        later_place q x xs a (slice_index column m) k.place (omega (arith, u, is)) k.is k.within k.passes) in
        omega (arith, c, s)
    first (suc z) e tail whole =
        let is = head.is in let c = count_later q x xs in
        let s = whole (λ m l. let k = h m l in later_place q x xs a (slice_index (j ∷ column) m) k.place (beyond (omega (arith, is, e)) m l)
        k.is k.within k.passes) in
        omega (arith, c, s)

pub rising_pairs : (column : List ℕ) → IsStrictlyIncreasing column → (i j : ℕ) → i < j → j < length column →
    slice_index column i < slice_index column j
rising_pairs column up i j l w = AllPairs-from_increasing column up i j 0 l w
