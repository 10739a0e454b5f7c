-- A list of n places that names each number below n names each once, and nothing else.
use Rattle.std.proofs.Common.{ℕ, zero, suc, Bool, true, false, ◌≡◌, ◌≢◌, ◌<◌, ◌≤◌, ◌+◌, cond, inl, inr, refl, sym, ◌∙◌, ap, arith}
use Rattle.std.specs.Prelude.{◌==◌, nat_lt, List, length, slice_index, slice_index_or, Contains}
use Rattle.std.proofs.lemmas.List.{get_or_default}
use Rattle.std.proofs.lemmas.Bool.{cases_Bool, cases_eq, cases_lt, eq-eqb, ne_eqb, lt-ltb, le-ltb, ltb-true}
use Rattle.amd_model.specs.Below.{sum_below, count_below}
use Rattle.amd_model.specs.Listing.{ListsEachRow}
use Rattle.amd_model.proofs.Counting.Below.{sum_plus, sum_same, count_pos, sum_zero, count_most}

-- 1 for true, 0 for false
abbrev counted : Bool → ℕ
counted b = cond b 1 0

-- a double sum, by rows or by columns
pub sum_swap : (m n : ℕ) (f : ℕ → ℕ → ℕ) → sum_below m (λ i. sum_below n (λ j. f i j)) ≡ sum_below n (λ j. sum_below m (λ i. f i j))
unfolding sum_below
sum_swap zero n f = sym (sum_zero n (λ k. 0) (λ k l. refl))
sum_swap (suc m) n f =
    let e = sum_swap m n f in
    let s = sum_plus n (λ j. f m j) (λ j. sum_below m (λ i. f i j)) in
    omega (arith, e, s)

-- among the numbers below n there is one that r equals, if r is below n, and else none
pub count_equal : (n r : ℕ) → count_below n (λ v. r == v) ≡ cond (nat_lt r n) 1 0
unfolding sum_below count_below
count_equal zero r = sym (ap counted (le-ltb r 0 (omega arith)))
count_equal (suc n) r =
    let e : count_below n (λ v. r == v) ≡ cond (nat_lt r n) 1 0 = count_equal n r in
    elim (cases_eq r n) [
      | inl same ↦ (let a : (r == n) ≡ true = eq-eqb r n same in let b : nat_lt r n ≡ false = le-ltb r n (omega arith) in
          let c : nat_lt r (suc n) ≡ true = lt-ltb r (suc n) (omega arith) in
          let e' : count_below n (λ v. r == v) ≡ 0 = e ∙ ap counted b in
          let h : counted (r == n) ≡ 1 = ap counted a in let k : counted (nat_lt r (suc n)) ≡ 1 = ap counted c in omega (arith, e', h, k))
      | inr other ↦ (let a : (r == n) ≡ false = ne_eqb r n other in let h : counted (r == n) ≡ 0 = ap counted a in
          let same : nat_lt r (suc n) ≡ nat_lt r n = elim (cases_lt r n) [
            | inl l ↦ lt-ltb r (suc n) (omega arith) ∙ sym (lt-ltb r n l)
            | inr l ↦ le-ltb r (suc n) (omega arith) ∙ sym (le-ltb r n l)
          ] in
          let k : counted (nat_lt r (suc n)) ≡ counted (nat_lt r n) = ap counted same in omega (arith, e, h, k))
    ]

-- where n of n numbers pass, each passes
pub count_all : (n : ℕ) (p : ℕ → Bool) → n ≤ count_below n p → (k : ℕ) → k < n → p k ≡ true
unfolding sum_below count_below
count_all zero p h k l = absurd (omega arith)
count_all (suc n) p h k l = let most : count_below n p ≤ n = count_most n p in elim (cases_Bool (p n)) [
  | inr t ↦ (let z : counted (p n) ≡ 0 = ap counted t in absurd (omega (arith, h, z, most)))
  | inl t ↦ (let z : counted (p n) ≡ 1 = ap counted t in elim (cases_eq k n) [
    | inl same ↦ ap p same ∙ t
    | inr other ↦ count_all n p (omega (arith, h, z)) k (omega arith)
  ])
]

-- two numbers that pass are counted twice
pub count_two : (n : ℕ) (p : ℕ → Bool) (j k : ℕ) → j < k → k < n → p j ≡ true → p k ≡ true → 2 ≤ count_below n p
unfolding sum_below count_below
count_two zero p j k l m pj pk = absurd (omega arith)
count_two (suc n) p j k l m pj pk = elim (cases_eq k n) [
  | inl same ↦ (let z : counted (p n) ≡ 1 = ap counted (sym (ap p same) ∙ pk) in let one : 0 < count_below n p =
      count_pos n p j (omega arith) pj in omega (arith, z, one))
  | inr other ↦ (let more : 2 ≤ count_below n p = count_two n p j k l (omega arith) pj pk in omega (arith, more))
]

-- a term above the others' least value shows in the sum
sum_excess : (n : ℕ) (f : ℕ → ℕ) → ((v : ℕ) → v < n → 1 ≤ f v) → (v : ℕ) → v < n → f v + n ≤ sum_below n f + 1
unfolding sum_below
sum_excess zero f each v h = absurd (omega arith)
sum_excess (suc n) f each v h = elim (cases_eq v n) [
  | inl same ↦ (let least : (m : ℕ) → m ≤ n → m ≤ sum_below m f = λ m l. ones m (λ u k. each u (omega arith)) in
      let e : f v ≡ f n = ap f same in let s = least n (omega arith) in omega (arith, s, e))
  | inr other ↦ (let s = sum_excess n f (λ u l. each u (omega arith)) v (omega arith) in let o = each n (omega arith) in
      omega (arith, s, o))
]
  where
    ones : (m : ℕ) → ((u : ℕ) → u < m → 1 ≤ f u) → m ≤ sum_below m f
    ones zero k = omega arith
    ones (suc m) k = let a = ones m (λ u l. k u (omega arith)) in let b = k m (omega arith) in omega (arith, a, b)

module _ (n : ℕ) (p : List ℕ) (listing : ListsEachRow n p) where
  -- how often v stands in p
  times : ℕ → ℕ
  times v = count_below n (λ k. slice_index p k == v)

  each_once : (v : ℕ) → v < n → 1 ≤ times v
  unfolding times
  each_once v l = let at : Contains p v = listing.all v l in
      let place : at.0 < n = omega (arith, at.1, listing.places) in
      let named : (slice_index p at.0 == v) ≡ true = eq-eqb (slice_index p at.0) v (found p v at.0 at.1 at.2) in
      let c = count_pos n (λ k. slice_index p k == v) at.0 place named in omega (arith, c)
    where
      found : (xs : List ℕ) (x k : ℕ) → k < length xs → slice_index_or xs k x ≡ x → slice_index xs k ≡ x
      found xs x k l e = get_or_default xs k 0 x l ∙ e

  total : sum_below n times ≡ count_below n (λ k. nat_lt (slice_index p k) n)
  unfolding times count_below
  total = sum_swap n n (λ v k. cond (slice_index p k == v) 1 0)
      ∙ sum_same n (λ k. sum_below n (λ v. cond (slice_index p k == v) 1 0)) (λ k. cond (nat_lt (slice_index p k) n) 1 0)
      (λ k l. count_equal n (slice_index p k))

  enough : n ≤ sum_below n times
  enough = elim (cases_lt 0 n) [
    | inl some ↦ (let s = sum_excess n times each_once 0 some in let o = each_once 0 some in omega (arith, s, o))
    | inr none ↦ omega arith
  ]

  -- each place holds a number below n
  pub permutation_below : (k : ℕ) → k < n → slice_index p k < n
  permutation_below k l = let t = total in let e = enough in
      ltb-true (slice_index p k) n (count_all n (λ k. nat_lt (slice_index p k) n) (omega (arith, t, e)) k l)

  -- different places hold different numbers
  pub permutation_once : (j k : ℕ) → j < k → k < n → slice_index p j ≢ slice_index p k
  unfolding times
  permutation_once j k l m same =
      let v : ℕ = slice_index p k in
      let small : v < n = permutation_below k m in
      let two = count_two n (λ i. slice_index p i == v) j k l m (eq-eqb (slice_index p j) v same) (eq-eqb (slice_index p k) v refl) in
      let s = sum_excess n times each_once v small in
      let t = total in
      let most = count_most n (λ k. nat_lt (slice_index p k) n) in
      omega (arith, two, s, t, most)
