-- The classes that are left of a front go back into the lists by bound, one after another.
use Rattle.amd_model.proofs.Counting.Below.{clash}
use Rattle.std.proofs.Common.{ℕ, zero, suc, ℤ, true, false, List, [], ◌∷◌, ◌++◌, ◌≡◌, ◌<◌, ◌≤◌, ◌+◌}
use Rattle.std.proofs.Common.{◌-◌, ◌⊎◌, ◌||◌, inl, inr, refl, sym, subst, ap}
use Rattle.std.proofs.Common.{◌∙◌, arith, cond, length, set, get_or-set_same, get_or-set_other, append-nil}
use Rattle.std.specs.Prelude.{nat_lt, ◌==◌}
use Rattle.std.proofs.Math.Bool.{or-false}
use Rattle.std.proofs.lemmas.Bool.{cases_Bool, cases_eq, ne_eqb, cond-true, cond-false, ltb-true, ltb-false, false_from_ne_true}
use Rattle.std.proofs.lemmas.List.Elements.{filter-append}
use Rattle.std.proofs.lemmas.List.Sums.{fold-append}
use Rattle.amd_model.specs.Quotient.{has}
use Rattle.amd_model.proofs.Listings.Words.{has_none, has_head, has_tail, has_cases, has_append as in_parts, has_filter as filter_gives}
use Rattle.amd_words.specs.Words.{num, word, place, rows, in_front, Names}
use Rattle.amd_lists.specs.Chains.{Chain, DegreeLists}
use Rattle.amd_lists.specs.Sizes.{bucket_count}
use Rattle.amd_merging.specs.Merging.{bucket_of}
use Rattle.amd_merging.specs.Restoring.{marked_in, put_all}
use Rattle.amd_words.proofs.RowLists.{rows_more, rows_has, rows_part}
use Rattle.amd_words.proofs.WordMarks.{rows_start, rows_next}

-- ---- the marked ones among some words

module _ (nv iw : List ℤ) (from : ℕ) where
  pub marked_none : marked_in nv (rows iw from (from - from)) ≡ []
  marked_none = ap (marked_in nv) (rows_start iw from)

  module _ (k i : ℕ) (is : i ≡ place (word iw (from + k))) where
    grown : marked_in nv (rows iw from (k + 1)) ≡ marked_in nv (rows iw from k) ++ cond (in_front nv i) (i ∷ []) []
    grown = ap (marked_in nv) (rows_more iw from k ∙ ap (λ z. rows iw from k ++ z ∷ []) (sym is))
        ∙ filter-append (in_front nv) (rows iw from k) (i ∷ [])

    pub marked_next : in_front nv i ≡ true → marked_in nv (rows iw from (k + 1)) ≡ marked_in nv (rows iw from k) ++ i ∷ []
    marked_next h = grown ∙ ap (λ b. marked_in nv (rows iw from k) ++ cond b (i ∷ []) []) h

    pub marked_skip : in_front nv i ≡ false → marked_in nv (rows iw from (k + 1)) ≡ marked_in nv (rows iw from k)
    marked_skip h = grown ∙ ap (λ b. marked_in nv (rows iw from k) ++ cond b (i ∷ []) []) h ∙ append-nil (marked_in nv (rows iw from k))

    pub rows_other : (x : ℕ) → (x ≡ i → ⊥) → has (rows iw from (k + 1)) x ≡ has (rows iw from k) x
    rows_other x ne = rows_next iw from k x
        ∙ ap (λ b. has (rows iw from k) x || b) (ne_eqb (place (word iw (from + k))) x (λ e. ne (sym e ∙ sym is)))
        ∙ or-false (has (rows iw from k) x)

    pub rows_fresh : (x : ℕ) → has (rows iw from (k + 1)) x ≡ false → (x ≡ i → ⊥) × (has (rows iw from k) x ≡ false)
    rows_fresh x h = (
      λ q. clash {P = ⊥} (ap (has (rows iw from (k + 1))) (q ∙ is) ∙ rows_has iw from (k + 1) k (omega arith)) h,
      false_from_ne_true (has (rows iw from k) x) (λ t. clash {P = ⊥} (rows_part iw from k (k + 1) x (omega arith) t) h),
    )

-- what words name is below n
pub rows_small : (n : ℕ) (iw : List ℤ) (from count : ℕ) → Names n iw from count → (x : ℕ) → has (rows iw from count) x ≡ true → x < n
unfolding rows
rows_small n iw from zero names x h = absurd (has_none x h)
rows_small n iw from (suc count) names x h = elim (in_parts x (rows iw from count) (place (word iw (from + count)) ∷ []) h) [
  | inl k ↦ rows_small n iw from count (λ j l. names j (omega (arith, l))) x k
  | inr k ↦ elim (has_cases x (place (word iw (from + count))) [] k) [
    | inl q ↦ (let a = (names count (omega arith)).1 in omega (arith, a, q))
    | inr q ↦ absurd (has_none x q)
  ]
]

-- ---- rows put at the heads of lists

abbrev pub put_one : (ℕ → ℕ) → (ℕ → List ℕ) → ℕ → ℕ → List ℕ
put_one bound lists i b = cond (b == bound i) (i ∷ lists b) (lists b)

pub put_none : (bound : ℕ → ℕ) (xs : List ℕ) (lists : ℕ → List ℕ) → xs ≡ [] → (b : ℕ) → lists b ≡ put_all bound xs lists b
put_none bound xs lists e b = sym (ap (λ ys. put_all bound ys lists b) e)

pub put_more : (bound : ℕ → ℕ) (xs : List ℕ) (i : ℕ) (lists : ℕ → List ℕ) (b : ℕ) → put_one bound (put_all bound xs lists) i b
    ≡ put_all bound (xs ++ i ∷ []) lists b
put_more bound xs i lists b = sym (ap (λ g. g b) (fold-append (λ (before : ℕ →
    List ℕ) (j b : ℕ). cond (b == bound j) (j ∷ before b) (before b)) lists xs (i ∷ [])))

-- what is listed was put there, or was listed before
pub put_gives : (bound : ℕ → ℕ) (xs : List ℕ) (lists : ℕ → List ℕ) (b x : ℕ) → has (put_all bound xs lists b) x ≡ true →
    (has xs x ≡ true) ⊎ (has (lists b) x ≡ true)
put_gives bound [] lists b x h = inr h
put_gives bound (y ∷ ys) lists b x h = elim (put_gives bound ys (put_one bound lists y) b x h) [
  | inl k ↦ inl (has_tail x y ys k)
  | inr k ↦ elim (cases_Bool (b == bound y)) [
    | inl t ↦ elim (has_cases x y (lists b) (sym (ap (λ l. has l x) (cond-true (b == bound y) (y ∷ lists b) (lists b) t)) ∙ k)) [
      | inl q ↦ inl (has_head x y ys q)
      | inr q ↦ inr q
    ]
    | inr f ↦ inr (sym (ap (λ l. has l x) (cond-false (b == bound y) (y ∷ lists b) (lists b) f)) ∙ k)
  ]
]

-- the head of a list that has one is listed
pub head_named : (n : ℕ) (next : List ℕ) (h : ℕ) (xs : List ℕ) → Chain n next h xs → h < n → has xs h ≡ true
head_named n next h [] c l = absurd (omega (arith, c, l))
head_named n next h (z ∷ zs) c l = has_head h z zs c.0

-- a row that no list names heads none
pub no_head : (n : ℕ) (head next last degree : List ℕ) (lists : ℕ → List ℕ) (d x : ℕ) → DegreeLists n head next last degree lists →
    d < n → x < n →
    has (lists d) x ≡ false → x ≡ num head d → ⊥
no_head n head next last degree lists d x h small row out e =
    clash {P = ⊥} (ap (has (lists d)) e ∙ head_named n next (num head d) (lists d) (h.chains d small) (omega (arith, row, e))) out

-- ---- buckets are emptied through the keys of the classes at their heads

-- a bucket that has a head still has it from before, and that row was not met
pub record Emptying (n : ℕ) (iw : List ℤ) (from : ℕ) (hash0 : List ℕ) (k : ℕ) (hash : List ℕ) : Type 0 where
  pub full : (b : ℕ) → b < bucket_count n → num hash b < n → (num hash b ≡ num hash0 b) × (has (rows iw from k) (num hash0 b) ≡ false)

module _ (n : ℕ) (iw nv : List ℤ) (from count : ℕ) (hash0 last : List ℕ) where
  pub emptying_none : Emptying n iw from hash0 (from - from) hash0
  unfolding has
  emptying_none = record { full = λ b l s. (refl, ap (λ xs. has xs (num hash0 b)) (rows_start iw from)) }

  module _ (heads : (b : ℕ) → b < bucket_count n → num hash0 b < n → (1 < count) ×
      (has (marked_in nv (rows iw from count)) (num hash0 b) ≡ true) × (bucket_of count last (num hash0 b) ≡ b))
    where
      module _ (k i : ℕ) (is : i ≡ place (word iw (from + k))) (hash : List ℕ) (st : Emptying n iw from hash0 k hash) where
        still : (x : ℕ) → has (rows iw from k) x ≡ false → (x ≡ i → ⊥) → has (rows iw from (k + 1)) x ≡ false
        still x h ne = rows_other nv iw from k i is x ne ∙ h

        pub emptying_skips : in_front nv i ≡ false → Emptying n iw from hash0 (k + 1) hash
        emptying_skips f = record {
          full = λ b l s. (let p = st.full b l s in let e = p.0 in (
            p.0,
            still (num hash0 b) p.1 (λ q.
                clash {P = ⊥} (ap (in_front nv) (sym q) ∙ (filter_gives (in_front nv) (rows iw from count) (num hash0 b)
                (heads b l (omega (arith, s, e))).1).1) f),
          ));
        }

        clears : bucket_of count last i < bucket_count n → length hash ≡ bucket_count n →
            Emptying n iw from hash0 (k + 1) (set hash (bucket_of count last i) n)
        clears small long = record {
          full = λ b l s. elim (cases_eq b (bucket_of count last i)) [
            | inl e ↦ (let v = ap (num (set hash (bucket_of count last i) n)) e
                ∙ get_or-set_same hash (bucket_of count last i) n 0 (omega (arith, small, long)) in
                absurd (omega (arith, s, v)))
            | inr ne ↦ (let v = get_or-set_other hash (bucket_of count last i) b n 0 ne in
                let p = st.full b l (omega (arith, s, v)) in let e = p.0 in
                (v ∙ p.0, still (num hash0 b) p.1 (λ q. ne (sym (heads b l (omega (arith, s, v, e))).2 ∙ ap (bucket_of count last) q))))
          ];
        }

        -- no bucket was used for one row
        stays : nat_lt 1 count ≡ false → Emptying n iw from hash0 (k + 1) hash
        stays few = record {
          full = λ b l s. (let e = (st.full b l s).0 in let m = (heads b l (omega (arith, s, e))).0 in let f = ltb-false 1 count few in
              absurd (omega (arith, m, f)));
        }

        pub emptying_clears : bucket_of count last i < bucket_count n → length hash ≡ bucket_count n →
            Emptying n iw from hash0 (k + 1) (cond (nat_lt 1 count) (set hash (bucket_of count last i) n) hash)
        emptying_clears small long = elim (cases_Bool (nat_lt 1 count)) [
          | inl t ↦ subst (Emptying n iw from hash0 (k + 1)) (sym (cond-true (nat_lt 1 count) (set hash (bucket_of count last i) n) hash t))
              (clears small long)
          | inr f ↦ subst (Emptying n iw from hash0 (k + 1))
              (sym (cond-false (nat_lt 1 count) (set hash (bucket_of count last i) n) hash f)) (stays f)
        ]

      pub emptying_all : (hash : List ℕ) → Emptying n iw from hash0 count hash → (b : ℕ) → b < bucket_count n → n ≤ num hash b
      emptying_all hash st b l = elim (cases_Bool (nat_lt (num hash b) n)) [
        | inr f ↦ ltb-false (num hash b) n f
        | inl t ↦ (let s = ltb-true (num hash b) n t in let p = st.full b l s in let e = p.0 in
            clash (filter_gives (in_front nv) (rows iw from count) (num hash0 b) (heads b l (omega (arith, s, e))).1).0 p.1)
      ]
