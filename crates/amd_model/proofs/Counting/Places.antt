-- The places of a list: what stands where, and lists in which no number stands twice.
use Rattle.std.proofs.Common.{ℕ, zero, suc, Bool, true, false, ◌≡◌, ◌≢◌, ◌<◌, ◌≤◌, ◌==◌, not, inl, inr, refl, sym, ◌∙◌, ap, subst, arith}
use Rattle.std.proofs.Common.{List, [], ◌∷◌, ◌++◌, length, cond, ◌+◌}
use Rattle.std.specs.Prelude.{filter, slice_index, slice_index_or, take, drop, Contains}
use Rattle.std.specs.List.Sorted.{IsStrictlyIncreasing}
use Rattle.std.proofs.Math.Seq.{take-suc, get_or-append_seam}
use Rattle.std.proofs.lemmas.List.{append-nil, get_or_append_left, length-append}
use Rattle.std.proofs.lemmas.Bool.{true≢false, cases_eq, or_cases, or_left, or_right, not_from_true, eqb-true, eq-eqb, ne_eqb, not-true}
use Rattle.std.proofs.lemmas.Bool.{not_from_false, cases_lt}
use Rattle.amd_model.specs.Below.{any_below, list_below, count_below, sum_below}
use Rattle.amd_model.specs.Factor.{before}
use Rattle.amd_model.proofs.Counting.Below.{any_gives, clash}
use Rattle.amd_model.proofs.Listings.Words.{has_head, has_tail, has_cases, has_none, has_append, has_left, has_right, has_filter}
use Rattle.amd_model.proofs.Listings.Words.{filter_has, has_below}
use Rattle.amd_model.specs.Quotient.{has, Once}
use Rattle.amd_model.proofs.Quotient.Lists.{once_filter}

-- the list of the numbers below a bound, one number more
pub below_skip : (n : ℕ) (p : ℕ → Bool) → p n ≡ false → list_below (suc n) p ≡ list_below n p
unfolding list_below
below_skip n p h = ap (λ b. list_below n p ++ cond b (n ∷ []) []) h ∙ append-nil (list_below n p)

pub below_take : (n : ℕ) (p : ℕ → Bool) → p n ≡ true → list_below (suc n) p ≡ list_below n p ++ n ∷ []
unfolding list_below
below_take n p h = ap (λ b. list_below n p ++ cond b (n ∷ []) []) h

pub below_none : (p : ℕ → Bool) → list_below 0 p ≡ []
unfolding list_below
below_none p = refl

-- a number of the list has a place
pub place_of : (xs : List ℕ) (u : ℕ) → has xs u ≡ true → (k : ℕ) × (k < length xs) × ((d : ℕ) → slice_index_or xs k d ≡ u)
place_of [] u h = absurd (has_none u h)
place_of (x ∷ xs) u h = elim (has_cases u x xs h) [
  | inl q ↦ (0, omega arith, λ d. sym q)
  | inr t ↦ (let r = place_of xs u t in (suc r.0, (let l = r.1 in omega (arith, l)), r.2))
]

-- what stands at a place is in the list
pub has_place : (xs : List ℕ) (k : ℕ) → k < length xs → has xs (slice_index xs k) ≡ true
has_place [] k l = absurd (omega arith)
has_place (x ∷ xs) zero l = has_head x x xs refl
has_place (x ∷ xs) (suc k) l = has_tail (slice_index xs k) x xs (has_place xs k (omega arith))

-- different places have different numbers
pub places_differ : (xs : List ℕ) → Once xs → (i j : ℕ) → i < j → j < length xs → slice_index xs i ≢ slice_index xs j
places_differ [] d i j l m q = absurd (omega arith)
places_differ (x ∷ xs) d i zero l m q = absurd (omega arith)
places_differ (x ∷ xs) d zero (suc j) l m q = clash (subst (λ y. has xs y ≡ true) (sym q) (has_place xs j (omega arith))) d.0
places_differ (x ∷ xs) d (suc i) (suc j) l m q = places_differ xs d.1 i j (omega arith) (omega arith) q

-- a list parts before each of its places
pub part_at : (xs : List ℕ) (k : ℕ) → k < length xs → xs ≡ take k xs ++ slice_index xs k ∷ drop (suc k) xs
part_at [] k l = absurd (omega arith)
part_at (x ∷ xs) zero l = refl
part_at (x ∷ xs) (suc k) l = ap (λ ys. x ∷ ys) (part_at xs k (omega arith))

-- what stands before a place is in the part before it
pub before_has : (p : List ℕ) (k u : ℕ) → k ≤ length p → before p k u ≡ true → has (take k p) u ≡ true
unfolding before any_below
before_has p zero u l h = absurd (true≢false (sym h))
before_has p (suc k) u l h = subst (λ xs. has xs u ≡ true) (sym (take-suc p k 0 (omega arith)))
    (elim (or_cases (slice_index p k == u) (before p k u) h) [
      | inl q ↦ has_right u (take k p) (slice_index p k ∷ []) (has_head u (slice_index p k) [] (sym (eqb-true (slice_index p k) u q)))
      | inr r ↦ has_left u (take k p) (slice_index p k ∷ []) (before_has p k u (omega arith) r)
    ])

-- what is in the part before a place stands before it
pub has_before : (p : List ℕ) (k u : ℕ) → k ≤ length p → has (take k p) u ≡ true → before p k u ≡ true
unfolding before any_below
has_before p zero u l h = absurd (has_none u h)
has_before p (suc k) u l h =
    elim (has_append u (take k p) (slice_index p k ∷ []) (subst (λ xs. has xs u ≡ true) (take-suc p k 0 (omega arith)) h)) [
      | inl a ↦ or_right (slice_index p k == u) (before p k u) (has_before p k u (omega arith) a)
      | inr a ↦ elim (has_cases u (slice_index p k) [] a) [
        | inl q ↦ or_left (slice_index p k == u) (before p k u) (eq-eqb (slice_index p k) u (sym q))
        | inr q ↦ absurd (has_none u q)
      ]
    ]

-- what stands at a later place does not stand before
pub later_not_before : (p : List ℕ) → Once p → (k j : ℕ) → k ≤ j → j < length p → has (take k p) (slice_index p j) ≡ true → ⊥
unfolding before
later_not_before p d k j l m h =
    let r = any_gives k (λ i. slice_index p i == slice_index p j) (has_before p k (slice_index p j) (omega arith) h) in
    let i = r.1 in places_differ p d r.0 j (omega (arith, i)) m (eqb-true (slice_index p r.0) (slice_index p j) r.2)

none_dropped : (xs : List ℕ) (x : ℕ) → (has xs x ≡ true → ⊥) → length (filter (λ y. not (y == x)) xs) ≡ length xs
none_dropped [] x n = refl
none_dropped (y ∷ xs) x n =
    subst (λ b. length (cond b (y ∷ filter (λ y. not (y == x)) xs) (filter (λ y. not (y == x)) xs)) ≡ suc (length xs))
    (sym (not_from_false (y == x) (ne_eqb y x (λ q. n (has_head x y xs (sym q))))))
    (ap suc (none_dropped xs x (λ h. n (has_tail x y xs h))))

-- one number dropped from a list in which it stands once
one_dropped : (xs : List ℕ) (x : ℕ) → Once xs → has xs x ≡ true → length xs ≡ suc (length (filter (λ y. not (y == x)) xs))
one_dropped [] x d h = absurd (has_none x h)
one_dropped (y ∷ xs) x d h = elim (cases_eq y x) [
  | inl q ↦ subst (λ b. suc (length xs) ≡ suc (length (cond b (y ∷ filter (λ y. not (y == x)) xs) (filter (λ y. not (y == x)) xs))))
      (sym (not_from_true (y == x) (eq-eqb y x q)))
      (ap suc (sym (none_dropped xs x (λ k. clash (subst (λ z. has xs z ≡ true) (sym q) k) d.0))))
  | inr ne ↦ subst (λ b. suc (length xs) ≡ suc (length (cond b (y ∷ filter (λ y. not (y == x)) xs) (filter (λ y. not (y == x)) xs))))
      (sym (not_from_false (y == x) (ne_eqb y x ne)))
      (ap suc (one_dropped xs x d.1 (elim (has_cases x y xs h) [ inl q ↦ absurd (ne (sym q)) | inr k ↦ k ])))
]

-- a list that names each number below n once, and no other, has n places
pub length_once : (n : ℕ) (xs : List ℕ) → Once xs → ((u : ℕ) → has xs u ≡ true → u < n) → ((u : ℕ) → u < n → has xs u ≡ true) →
    length xs ≡ n
length_once zero [] d small all = refl
length_once zero (x ∷ xs) d small all = absurd (let l = small x (has_head x x xs refl) in omega (arith, l))
length_once (suc n) xs d small all =
    let p : ℕ → Bool = λ y. not (y == n) in
    let rest : length (filter p xs) ≡ n = length_once n (filter p xs) (once_filter p xs d)
    (λ u h. let r = has_filter p xs u h in let l = small u r.0 in elim (cases_eq u n) [
      | inl q ↦ absurd (true≢false (sym (eq-eqb u n q) ∙ not-true (u == n) r.1))
      | inr ne ↦ omega (arith, l)
    ])
    (λ u l. filter_has p xs u (all u (omega arith)) (not_from_false (u == n) (ne_eqb u n (omega arith)))) in
    one_dropped xs n d (all n (omega arith)) ∙ ap suc rest

-- a greater number put behind a rising list
increasing_push : (xs : List ℕ) (n : ℕ) → IsStrictlyIncreasing xs → ((u : ℕ) → has xs u ≡ true → u < n) →
    IsStrictlyIncreasing (xs ++ n ∷ [])
increasing_push xs n up small k l = let len = length-append xs (n ∷ []) in elim (cases_lt (k + 1) (length xs)) [
  | inl h ↦ (let a = get_or_append_left xs (n ∷ []) 0 k (omega arith) in let b = get_or_append_left xs (n ∷ []) 0 (k + 1) h in
      let c = up k h in omega (arith, a, b, c))
  | inr h ↦ (let q : k + 1 ≡ length xs = omega (arith, len) in let a = get_or_append_left xs (n ∷ []) 0 k (omega arith) in
      let b : slice_index (xs ++ n ∷ []) (k + 1) ≡ n = subst (λ i. slice_index (xs ++ n ∷ []) i ≡ n) (sym q) (get_or-append_seam xs n [] 0)
      in
      let c = small (slice_index xs k) (has_place xs k (omega arith)) in omega (arith, a, b, c))
]

-- the numbers below a bound that pass stand in rising order
pub below_increasing : (n : ℕ) (p : ℕ → Bool) → IsStrictlyIncreasing (list_below n p)
unfolding list_below
below_increasing zero p = λ k l. absurd (omega arith)
below_increasing (suc n) p = go (p n) (below_increasing n p)
  where
    go : (b : Bool) → IsStrictlyIncreasing (list_below n p) → IsStrictlyIncreasing (list_below n p ++ cond b (n ∷ []) [])
    go true up = increasing_push (list_below n p) n up (λ u h. (has_below n p u h).0)
    go false up = subst IsStrictlyIncreasing (sym (append-nil (list_below n p))) up

-- as many are listed as are counted
pub length_below : (n : ℕ) (p : ℕ → Bool) → length (list_below n p) ≡ count_below n p
unfolding list_below count_below sum_below
length_below zero p = refl
length_below (suc n) p = let there : length (list_below n p) ≡ count_below n p = length_below n p in
    let joined = length-append (list_below n p) (cond (p n) (n ∷ []) []) in let last = one (p n) in omega (arith, there, joined, last)
  where
    one : (b : Bool) → length (cond b (n ∷ []) []) ≡ cond b 1 0
    one true = refl
    one false = refl

pub contains_has : (xs : List ℕ) (u : ℕ) → Contains xs u → has xs u ≡ true
contains_has [] u c = absurd (let l = c.1 in omega (arith, l))
contains_has (x ∷ xs) u (zero, l, q) = has_head u x xs (sym q)
contains_has (x ∷ xs) u (suc k, l, q) = has_tail u x xs (contains_has xs u (k, omega arith, q))

pub has_contains : (xs : List ℕ) (u : ℕ) → has xs u ≡ true → Contains xs u
has_contains xs u h = let r = place_of xs u h in (r.0, r.1, r.2 u)
