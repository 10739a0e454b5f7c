-- The starting lists of a symmetric pattern: the list of a row is its column in ascending order without the diagonal entry.
use Rattle.std.proofs.Common.{◌≡◌, ◌≢◌, ◌<◌, ◌≤◌, inl, inr, ℕ, zero, suc, Bool, true, false, List, [], ◌∷◌, ◌++◌}
use Rattle.std.proofs.Common.{arith, refl, ap, sym, ◌∙◌, cond, eqb, ltb, ◌&&◌, not, map}
use Rattle.std.specs.Prelude.{flat_map}
use Rattle.std.proofs.lemmas.Bool.{and_parts, and_from, cases_Bool, cases_eq, cases_lt, lt-ltb, ltb-true, le-leb, eq-eqb, ne_eqb}
use Rattle.std.proofs.lemmas.Bool.{false_from_ne_true, not-true, cond-true}
use Rattle.std.proofs.lemmas.Grind.{flat_map-append}
use Rattle.std.proofs.lemmas.List.{append-nil}
use Rattle.std.specs.Cmp.{both_ways}
use Rattle.amd_model.specs.Below.{list_below}
use Rattle.amd_model.specs.Quotient.{was_read, met_below, met_at, met_edges, other_end, starting_list}
use Rattle.amd_model.proofs.Counting.Below.{any_from, clash}
use Rattle.amd_edges.proofs.Orders.{unread, list_gap}
use Rattle.amd_round_laws.proofs.Lists.Rising.{list_same}

-- another row that stands in the column
abbrev pub own : (ℕ → ℕ → Bool) → ℕ → ℕ → Bool
own pair i x = not (eqb x i) && pair x i

-- lists of one number more
pub flat_push : {X : Type 0} (f : ℕ → List X) (n : ℕ) (p : ℕ → Bool) → flat_map f (list_below (suc n) p)
    ≡ flat_map f (list_below n p) ++ cond (p n) (f n) []
unfolding list_below
flat_push f n p = flat_map-append f (list_below n p) (cond (p n) (n ∷ []) []) ∙
    ap (λ ys. flat_map f (list_below n p) ++ ys) (elim (cases_Bool (p n)) [
      | inl h ↦ rw h (append-nil (f n))
      | inr h ↦ rw h refl
    ])

pub flat_none : {X : Type 0} (f : ℕ → List X) (n : ℕ) (p : ℕ → Bool) → ((k : ℕ) → k < n → f k ≡ []) → flat_map f (list_below n p) ≡ []
unfolding list_below
flat_none f zero p h = refl
flat_none f (suc n) p h = flat_push f n p ∙ ap (λ ys. ys ++ cond (p n) (f n) []) (flat_none f n p (λ k l. h k (omega (arith, l))))
    ∙ elim (cases_Bool (p n)) [ inl e ↦ rw (e, h n (omega arith)) refl | inr e ↦ rw e refl ]

pub flat_of_map : {X Y : Type 0} (f : X → List Y) (h : ℕ → List X) (xs : List ℕ) →
    flat_map f (flat_map h xs) ≡ flat_map (λ y. flat_map f (h y)) xs
flat_of_map f h [] = refl
flat_of_map f h (x ∷ xs) = flat_map-append f (h x) (flat_map h xs) ∙ ap (λ ys. flat_map f (h x) ++ ys) (flat_of_map f h xs)

pub flat_same : {X : Type 0} (f h : ℕ → List X) (n : ℕ) (p : ℕ → Bool) → ((k : ℕ) → k < n → f k ≡ h k) →
    flat_map f (list_below n p) ≡ flat_map h (list_below n p)
unfolding list_below
flat_same f h zero p e = refl
flat_same f h (suc n) p e = flat_push f n p ∙ ap (λ ys. ys ++ cond (p n) (f n) []) (flat_same f h n p (λ k l. e k (omega (arith, l))))
    ∙ ap (λ ys. flat_map h (list_below n p) ++ cond (p n) ys []) (e n (omega arith)) ∙ sym (flat_push h n p)

module _ (n : ℕ) (pair : ℕ → ℕ → Bool) (mirror : (a b : ℕ) → pair a b ≡ true → pair b a ≡ true) where
  -- each lower entry was read in the column of its row
  none_unread : (k j a : ℕ) → a < k → unread pair k j a ≡ false
  unfolding was_read
  none_unread k j a l = false_from_ne_true _ (λ e.
      let p = and_parts _ _ e in let m = and_parts _ _ p.0 in
      clash (any_from k _ a l (and_from _ _ (le-leb a a (omega arith)) (mirror a j m.1))) (not-true _ p.1))

  none_below : (k j : ℕ) → met_below pair k j ≡ []
  unfolding met_below list_below
  none_below k j = ap (λ xs. map (λ i. (i, j)) xs) (list_gap (unread pair k j) 0 k (omega arith) (λ a x y. none_unread k j a y))

  same_mirror : (a b : ℕ) → pair a b ≡ pair b a
  same_mirror a b = both_ways _ _ (mirror a b) (mirror b a)

  module _ (i : ℕ) where
    not_before : (m : ℕ) → m ≤ i → ltb i m ≡ false
    not_before m l = false_from_ne_true (ltb i m) (λ w. let v = ltb-true i m w in omega (arith, v, l))

    -- what the upper entry of row j in column k gives to row i
    met_end : ℕ → ℕ → List ℕ
    met_end k j = other_end i (j, k)

    end_low : (k j : ℕ) → j ≡ i → met_end k j ≡ k ∷ []
    unfolding met_end other_end
    end_low k j e = rw (eq-eqb j i e) refl

    end_high : (k j : ℕ) → j ≢ i → k ≡ i → met_end k j ≡ j ∷ []
    unfolding met_end other_end
    end_high k j ne e = rw (ne_eqb j i ne, eq-eqb k i e) refl

    end_none : (k j : ℕ) → j ≢ i → k ≢ i → met_end k j ≡ []
    unfolding met_end other_end
    end_none k j ne other = rw (ne_eqb j i ne, ne_eqb k i other) refl

    -- what column k gives to row i
    column_ends : ℕ → List ℕ
    column_ends k = flat_map (met_end k) (list_below k (λ j. pair j k))

    column_met : (k : ℕ) → flat_map (other_end i) (met_at pair k) ≡ column_ends k
    unfolding met_at met_end column_ends
    column_met k = flat_of_map (other_end i) (λ j. (j, k) ∷ met_below pair k j) (list_below k (λ j. pair j k)) ∙
        flat_same _ (met_end k) k (λ j. pair j k) (λ j l. rw (none_below k j) (append-nil (other_end i (j, k))))

    before_own : (k : ℕ) → k < i → column_ends k ≡ []
    unfolding column_ends
    before_own k l = flat_none (met_end k) k (λ j. pair j k) (λ j m. end_none k j (λ e. omega (arith, l, m, e)) (λ e. omega (arith, l, e)))

    -- the rows above the diagonal of the own column, the first b of them
    own_column : (k b : ℕ) → k ≡ i → b ≤ i → flat_map (met_end k) (list_below b (λ j. pair j k)) ≡ list_below b (λ j. pair j k)
    unfolding list_below
    own_column k zero e l = refl
    own_column k (suc b) e l = flat_push (met_end k) b (λ j. pair j k)
        ∙ ap (λ ys. ys ++ cond (pair b k) (met_end k b) []) (own_column k b e (omega (arith, l)))
        ∙ ap (λ ys. list_below b (λ j. pair j k) ++ cond (pair b k) ys []) (end_high k b (λ w. omega (arith, l, w)) e)

    -- a later column gives itself where row i stands in it
    later_column : (k b : ℕ) → i < k → b ≤ k → flat_map (met_end k) (list_below b (λ j. pair j k)) ≡ cond (ltb i b && pair i k) (k ∷ []) []
    unfolding list_below
    later_column k zero m l = rw (not_before 0 (omega arith)) refl
    later_column k (suc b) m l = flat_push (met_end k) b (λ j. pair j k)
        ∙ ap (λ ys. ys ++ cond (pair b k) (met_end k b) []) (later_column k b m (omega (arith, l))) ∙ elim (cases_eq b i) [
          | inl e ↦ rw (
            end_low k b e,
            e,
            not_before i (omega arith),
            lt-ltb i (suc i) (omega arith),
          ) refl
          | inr ne ↦ rw (end_none k b ne (λ w. omega (arith, m, w))) (elim (cases_lt i b) [
            | inl x ↦ rw (lt-ltb i b x, lt-ltb i (suc b) (omega (arith, x))) (elim (cases_Bool (pair b k)) [
              | inl p ↦ rw p (append-nil _)
              | inr p ↦ rw p (append-nil _)
            ])
            | inr x ↦ rw (
              not_before b (omega (arith, x)),
              not_before (suc b) (omega (arith, x, ne)),
            )
                (elim (cases_Bool (pair b k)) [ inl p ↦ rw p refl | inr p ↦ rw p refl ])
          ])
        ]

    -- what the columns before m give
    listed : ℕ → List ℕ
    listed m = cond (ltb i m) (list_below m (own pair i)) []

    own_self : own pair i i ≡ false
    own_self = rw (eq-eqb i i refl) refl

    own_other : (x : ℕ) → x ≢ i → own pair i x ≡ pair x i
    own_other x ne = rw (ne_eqb x i ne) refl

    column_listed : (m : ℕ) → listed m ++ column_ends m ≡ listed (suc m)
    unfolding listed list_below column_ends
    column_listed m = elim (cases_lt m i) [
      | inl l ↦ rw (before_own m l, not_before m (omega (arith, l)), not_before (suc m) (omega (arith, l))) refl
      | inr l ↦ elim (cases_eq m i) [
        | inl e ↦ rw (e, not_before i (omega arith), lt-ltb i (suc i) (omega arith), own_self)
            (own_column i i refl (omega arith) ∙ list_same i (λ j. pair j i) (own pair i) (λ x m. sym (own_other x (λ w. omega (
              arith,
              m,
              w,
            ))))
            ∙ sym (append-nil (list_below i (own pair i))))
        | inr ne ↦ rw (lt-ltb i m (omega (arith, l, ne)), lt-ltb i (suc m) (omega (arith, l)), own_other m ne)
            (ap (λ ys. list_below m (own pair i) ++ ys) (later_column m m (omega (arith, l, ne)) (omega arith)
            ∙ rw (lt-ltb i m (omega (arith, l, ne)), same_mirror i m) refl))
      ]
    ]

    columns_listed : (m : ℕ) → flat_map column_ends (list_below m (λ c. true)) ≡ listed m
    unfolding list_below listed
    columns_listed zero = rw (not_before 0 (omega arith)) refl
    columns_listed (suc m) = flat_push column_ends m (λ c. true) ∙ ap (λ ys. ys ++ column_ends m) (columns_listed m) ∙ column_listed m

    pub symmetric_list : i < n → starting_list n pair i ≡ list_below n (own pair i)
    unfolding starting_list met_edges listed
    symmetric_list l =
        flat_map-append (other_end i) (flat_map (met_at pair) (list_below n (λ k. true)))
        (flat_map (met_below pair n) (list_below n (λ j. true)))
        ∙ ap (λ es. flat_map (other_end i) (flat_map (met_at pair) (list_below n (λ k. true))) ++ flat_map (other_end i) es)
        (flat_none (met_below pair n) n (λ j. true) (λ j m. none_below n j))
        ∙ append-nil _ ∙ flat_of_map (other_end i) (met_at pair) (list_below n (λ k. true))
        ∙ flat_same _ column_ends n (λ k. true) (λ k m. column_met k) ∙ columns_listed n
        ∙ cond-true (ltb i n) (list_below n (own pair i)) [] (lt-ltb i n l)
