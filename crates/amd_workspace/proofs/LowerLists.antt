-- The starting lists of a pattern without an entry above the diagonal: the list of a row is its earlier neighbours in ascending order, and
-- then its column below the diagonal.
use Rattle.std.proofs.Common.{◌≡◌, ◌≢◌, ◌<◌, ◌≤◌, ◌+◌, inl, inr, ℕ, zero, suc, Bool, true, false, List, [], ◌∷◌, ◌++◌}
use Rattle.std.proofs.Common.{arith, refl, ap, sym, ◌∙◌, subst, cond, eqb, ltb, ◌&&◌, ◌||◌, not, map, length, get_or}
use Rattle.std.proofs.Common.{append_assoc}
use Rattle.std.specs.Prelude.{flat_map}
use Rattle.std.proofs.lemmas.Bool.{and_parts, and_from, cases_Bool, cases_eq, cases_lt, lt-ltb, ltb-true, leb-true, eq-eqb, ne_eqb}
use Rattle.std.proofs.lemmas.Bool.{false_from_ne_true, not-true, not_from_false, or_cases, or_left, or_right}
use Rattle.std.proofs.lemmas.List.{append-nil, length-append, get_or_append_left, get_or_push}
use Rattle.std.specs.Cmp.{both_ways}
use Rattle.amd_model.specs.Below.{list_below, count_below}
use Rattle.amd_model.specs.Quotient.{was_read, met_below, met_at, met_edges, other_end, starting_list}
use Rattle.amd_model.proofs.Counting.Below.{none_any, clash, count_split, count_same}
use Rattle.amd_model.proofs.Counting.Places.{length_below, below_skip, below_take}
use Rattle.amd_edges.proofs.Orders.{unread, list_gap}
use Rattle.amd_round_laws.proofs.Lists.Rising.{list_same}
use Rattle.amd_workspace.proofs.Copied.{others_most}
use Rattle.amd_workspace.proofs.SymmetricLists.{own, flat_push, flat_none, flat_of_map, flat_same}

-- row i stands in column x, which is before it
abbrev pub early : (ℕ → ℕ → Bool) → ℕ → ℕ → Bool
early pair i x = ltb x i && pair i x

flat_of_pairs : (f : ℕ × ℕ → List ℕ) (j : ℕ) (xs : List ℕ) → flat_map f (map (λ i. (i, j)) xs) ≡ flat_map (λ i. f (i, j)) xs
flat_of_pairs f j [] = refl
flat_of_pairs f j (x ∷ xs) = ap (λ ys. f (x, j) ++ ys) (flat_of_pairs f j xs)

flat_of_ones : (f : ℕ → List ℕ) (xs : List ℕ) → ((x : ℕ) → f x ≡ x ∷ []) → flat_map f xs ≡ xs
flat_of_ones f [] h = refl
flat_of_ones f (x ∷ xs) h = ap (λ ys. ys ++ flat_map f xs) (h x) ∙ ap (λ ys. x ∷ ys) (flat_of_ones f xs h)

module _ (n : ℕ) (pair : ℕ → ℕ → Bool) (lower : (a b : ℕ) → pair a b ≡ true → b ≤ a) where
  -- a row of column j below the diagonal
  under : ℕ → ℕ → Bool
  under j x = ltb j x && pair x j

  no_upper : (k : ℕ) → met_at pair k ≡ []
  unfolding met_at list_below
  no_upper k = ap (flat_map (λ j. (j, k) ∷ met_below pair k j)) (list_gap (λ j. pair j k) 0 k (omega arith) (λ a x y.
      false_from_ne_true _ (λ e. let w = lower a k e in omega (arith, w, y))))

  -- it was read in no column before
  fresh : (j a : ℕ) → j < a → was_read pair n j a ≡ false
  unfolding was_read
  fresh j a l = none_any n _ (λ c h e. let p = and_parts _ _ e in let x = leb-true a c p.0 in let y = lower j c p.1 in
      omega (arith, l, x, y))

  below_is : (j : ℕ) → met_below pair n j ≡ map (λ i. (i, j)) (list_below n (under j))
  unfolding met_below under
  below_is j = ap (map (λ i. (i, j))) (list_same n (unread pair n j) (under j) (λ a l. both_ways _ _ (λ e. (and_parts _ _ e).0)
      (λ e. and_from _ _ e (not_from_false _ (fresh j a (ltb-true j a (and_parts _ _ e).0))))))

  module _ (i : ℕ) (inside : i < n) where
    met_end : ℕ → ℕ → List ℕ
    met_end j x = other_end i (x, j)

    -- what the entries of column j give to row i
    column_ends : ℕ → List ℕ
    column_ends j = flat_map (met_end j) (list_below n (under j))

    column_met : (j : ℕ) → flat_map (other_end i) (met_below pair n j) ≡ column_ends j
    unfolding column_ends met_end
    column_met j = ap (flat_map (other_end i)) (below_is j) ∙ flat_of_pairs (other_end i) j (list_below n (under j))

    end_own : (j x : ℕ) → j ≡ i → met_end j x ≡ x ∷ []
    unfolding met_end other_end
    end_own j x e = elim (cases_eq x i) [
      | inl same ↦ rw (eq-eqb x i same) (ap (λ y. y ∷ []) (e ∙ sym same))
      | inr ne ↦ rw (ne_eqb x i ne, eq-eqb j i e) refl
    ]

    end_here : (j x : ℕ) → j ≢ i → x ≡ i → met_end j x ≡ j ∷ []
    unfolding met_end other_end
    end_here j x ne e = rw (eq-eqb x i e) refl

    end_none : (j x : ℕ) → j ≢ i → x ≢ i → met_end j x ≡ []
    unfolding met_end other_end
    end_none j x ne other = rw (ne_eqb x i other, ne_eqb j i ne) refl

    own_column : (j : ℕ) → j ≡ i → column_ends j ≡ list_below n (under j)
    unfolding column_ends
    own_column j e = flat_of_ones (met_end j) (list_below n (under j)) (λ x. end_own j x e)

    not_before : (m : ℕ) → m ≤ i → ltb i m ≡ false
    not_before m l = false_from_ne_true (ltb i m) (λ w. let v = ltb-true i m w in omega (arith, v, l))

    -- another column gives itself where row i stands in it
    other_column : (j b : ℕ) → j ≢ i → flat_map (met_end j) (list_below b (under j)) ≡ cond (ltb i b && under j i) (j ∷ []) []
    unfolding list_below
    other_column j zero m = rw (not_before 0 (omega arith)) refl
    other_column j (suc b) m = flat_push (met_end j) b (under j)
        ∙ ap (λ ys. ys ++ cond (under j b) (met_end j b) []) (other_column j b m) ∙ elim (cases_eq b i) [
          | inl e ↦ rw (end_here j b m e, e, not_before i (omega arith), lt-ltb i (suc i) (omega arith)) refl
          | inr ne ↦ rw (end_none j b m ne) (elim (cases_lt i b) [
            | inl x ↦ rw (lt-ltb i b x, lt-ltb i (suc b) (omega (arith, x))) (elim (cases_Bool (under j b)) [
              | inl p ↦ rw p (append-nil _)
              | inr p ↦ rw p (append-nil _)
            ])
            | inr x ↦ rw (not_before b (omega (arith, x)), not_before (suc b) (omega (arith, x, ne)))
                (elim (cases_Bool (under j b)) [ inl p ↦ rw p refl | inr p ↦ rw p refl ])
          ])
        ]

    -- what the columns before m give
    listed : ℕ → List ℕ
    listed m = list_below m (early pair i) ++ cond (ltb i m) (list_below n (under i)) []

    not_early : (m : ℕ) → i ≤ m → early pair i m ≡ false
    not_early m l = false_from_ne_true _ (λ e. let v = ltb-true m i (and_parts _ _ e).0 in omega (arith, v, l))

    column_listed : (m : ℕ) → listed m ++ column_ends m ≡ listed (suc m)
    unfolding listed list_below column_ends under
    column_listed m = elim (cases_lt m i) [
      | inl l ↦ rw (not_before m (omega (arith, l)), not_before (suc m) (omega (arith, l)))
          (ap (λ ys. (list_below m (early pair i) ++ []) ++ ys) (other_column m n (λ e. omega (arith, l, e)))
          ∙ rw (lt-ltb i n inside) (ap (λ ys. ys ++ cond (early pair i m) (m ∷ []) []) (append-nil (list_below m (early pair i)))
          ∙ sym (append-nil _)))
      | inr l ↦ rw (not_early m l, lt-ltb i (suc m) (omega (arith, l))) (elim (cases_eq m i) [
        | inl e ↦ rw (e, not_before i (omega arith)) (
            append_assoc (list_below i (early pair i)) [] (column_ends i) ∙ ap (λ ys. list_below i (early pair i) ++ ys) (own_column i refl)
            ∙ ap (λ ys. ys ++ list_below n (under i)) (sym (append-nil (list_below i (early pair i)))))
        | inr ne ↦ rw (lt-ltb i m (omega (arith, l, ne))) (
            ap (λ ys. (list_below m (early pair i) ++ list_below n (under i)) ++ ys) (other_column m n ne
            ∙ rw (lt-ltb i n inside) (ap (λ b. cond b (m ∷ []) []) (not_early m l)))
            ∙ append-nil _ ∙ ap (λ ys. ys ++ list_below n (under i)) (sym (append-nil (list_below m (early pair i)))))
      ])
    ]

    columns_listed : (m : ℕ) → flat_map column_ends (list_below m (λ c. true)) ≡ listed m
    unfolding list_below listed
    columns_listed zero = rw (not_before 0 (omega arith)) refl
    columns_listed (suc m) = flat_push column_ends m (λ c. true) ∙ ap (λ ys. ys ++ column_ends m) (columns_listed m) ∙ column_listed m

    under_own : list_below n (under i) ≡ list_below n (own pair i)
    unfolding under
    under_own = list_same n (under i) (own pair i) (λ x l. both_ways _ _
        (λ e. let p = and_parts _ _ e in let v = ltb-true i x p.0 in
        and_from _ _ (not_from_false _ (ne_eqb x i (λ w. omega (arith, v, w)))) p.1)
        (λ e. let p = and_parts _ _ e in let v = lower x i p.1 in elim (cases_eq x i) [
          | inl w ↦ clash (eq-eqb x i w) (not-true _ p.0)
          | inr ne ↦ and_from _ _ (lt-ltb i x (omega (arith, v, ne))) p.1
        ]))

    pub lower_list : starting_list n pair i ≡ list_below n (early pair i) ++ list_below n (own pair i)
    unfolding starting_list met_edges listed
    lower_list =
        ap (λ es. flat_map (other_end i) (es ++ flat_map (met_below pair n) (list_below n (λ j. true))))
        (flat_none (met_at pair) n (λ k. true) (λ k m. no_upper k))
        ∙ flat_of_map (other_end i) (met_below pair n) (list_below n (λ k. true))
        ∙ flat_same _ column_ends n (λ k. true) (λ k m. column_met k) ∙ columns_listed n
        ∙ ap (λ b. list_below n (early pair i) ++ cond b (list_below n (under i)) []) (lt-ltb i n inside)
        ∙ ap (λ ys. list_below n (early pair i) ++ ys) under_own

    -- a neighbour is one or the other
    abbrev joins : ℕ → Bool
    joins x = not (eqb i x) && (pair i x || pair x i)

    early_joins : (x : ℕ) → (joins x && early pair i x) ≡ early pair i x
    early_joins x = both_ways (joins x && early pair i x) (early pair i x) (λ e. (and_parts _ _ e).1) (λ e.
        let p = and_parts _ _ e in let v = ltb-true x i p.0 in
        and_from _ _ (and_from _ _ (not_from_false _ (ne_eqb i x (λ w. omega (arith, v, w)))) (or_left _ _ p.1)) e)

    own_joins : (x : ℕ) → (joins x && not (early pair i x)) ≡ own pair i x
    own_joins x = both_ways (joins x && not (early pair i x)) (own pair i x)
        (λ e. let p = and_parts (joins x) (not (early pair i x)) e in let q = and_parts (not (eqb i x)) (pair i x || pair x i) p.0 in
        let ne : x ≢ i = (λ w. clash {P = ⊥} (eq-eqb i x (sym w)) (not-true _ q.0)) in
        and_from _ _ (not_from_false _ (ne_eqb x i ne)) (elim (or_cases _ _ q.1) [
          | inl h ↦ (let v = lower i x h in let below : x < i = omega (arith, v, ne) in let is : early pair i x ≡ true =
              and_from _ _ (lt-ltb x i below) h in clash is (not-true _ p.1))
          | inr h ↦ h
        ]))
        (λ e. let p = and_parts _ _ e in let v = lower x i p.1 in let ne : x ≢ i = (λ w. clash {P = ⊥} (eq-eqb x i w) (not-true _ p.0)) in
        and_from _ _ (and_from _ _ (not_from_false _ (ne_eqb i x (λ w. ne (sym w)))) (or_right _ _ p.1))
        (not_from_false _ (false_from_ne_true _ (λ f. let w = ltb-true x i (and_parts _ _ f).0 in omega (arith, v, w)))))

    pub lower_count : count_below n (λ x. not (eqb i x) && (pair i x || pair x i))
        ≡ length (list_below n (early pair i)) + length (list_below n (own pair i))
    lower_count =
        let split = count_split n joins (early pair i) in
        let a = count_same n _ (early pair i) (λ x l. early_joins x) in let b = count_same n _ (own pair i) (λ x l. own_joins x) in
        let c = length_below n (early pair i) in let d = length_below n (own pair i) in
        omega (arith, split, a, b, c, d)

-- ---- the numbers of a list of those below a bound

pub record IsNth (n : ℕ) (p : ℕ → Bool) (k i : ℕ) : Type 0 where
  pub small : i < n
  pub passes : p i ≡ true
  pub before : length (list_below i p) ≡ k

pub nth_below : (n : ℕ) (p : ℕ → Bool) (k : ℕ) → k < length (list_below n p) → IsNth n p k (get_or (list_below n p) k 0)
unfolding list_below
nth_below zero p k l = absurd (omega (arith, l))
nth_below (suc n) p k l = elim (cases_Bool (p n)) [
  | inr off ↦ (let skip = below_skip n p off in let r = nth_below n p k (let e = ap length skip in omega (arith, e, l)) in
      let s = r.small in
      subst (λ xs. IsNth (suc n) p k (get_or xs k 0)) (sym skip)
      (record { small = omega (arith, s); passes = r.passes; before = r.before }))
  | inl on ↦ (let more = below_take n p on in let long = ap length more ∙ length-append (list_below n p) (n ∷ []) in
      subst (λ xs. IsNth (suc n) p k (get_or xs k 0)) (sym more) (elim (cases_lt k (length (list_below n p))) [
        | inl a ↦ (let r = nth_below n p k a in let s = r.small in
            subst (IsNth (suc n) p k) (sym (get_or_append_left (list_below n p) (n ∷ []) 0 k a))
            (record { small = omega (arith, s); passes = r.passes; before = r.before }))
        | inr a ↦ (let e : length (list_below n p) ≡ k = omega (arith, a, l, long) in
            subst (IsNth (suc n) p k) (sym (get_or_push (list_below n p) n 0 k e))
            (record { small = omega arith; passes = on; before = e }))
      ]))
]

pub length_more : (n m : ℕ) (p : ℕ → Bool) → m ≤ n → length (list_below m p) ≤ length (list_below n p)
length_more n m p l = let a = others_most n m p l in let b = length_below n p in omega (arith, a, b)

-- one that passes makes the list longer
pub length_grows : (n a : ℕ) (p : ℕ → Bool) → a < n → p a ≡ true → length (list_below a p) < length (list_below n p)
length_grows n a p l on = let one = ap length (below_take a p on) ∙ length-append (list_below a p) (a ∷ []) in
    let more = length_more n (suc a) p l in omega (arith, one, more)

-- two that pass have different numbers before them
pub nth_once : (a b : ℕ) (p : ℕ → Bool) → p a ≡ true → p b ≡ true → length (list_below a p) ≡ length (list_below b p) → a ≡ b
nth_once a b p x y e = elim (cases_eq a b) [
  | inl same ↦ same
  | inr ne ↦ elim (cases_lt a b) [
    | inl l ↦ (let w = length_grows b a p l x in absurd (omega (arith, w, e)))
    | inr l ↦ (let w = length_grows a b p (omega (arith, l, ne)) y in absurd (omega (arith, w, e)))
  ]
]
