-- The rows that are new in a column: one more of them, and all of them, sorted.
use Rattle.std.proofs.Common.{ℕ, suc, Bool, false, ◌≡◌, ◌≢◌, ◌<◌, ◌≤◌, ◌+◌, ◌==◌, ◌⊎◌, inl, inr, refl, sym, ◌∙◌, ap, subst}
use Rattle.std.proofs.Common.{arith, cond, List, [], ◌∷◌, ◌++◌, length, set, take}
use Rattle.std.specs.Prelude.{slice_index, count_by, Contains}
use Rattle.std.specs.List.Sorted.{IsStrictlyIncreasing, IsPermutation, IsNonDecreasing}
use Rattle.std.proofs.lemmas.Bool.{cases_eq, eq-eqb, ne_eqb}
use Rattle.std.proofs.lemmas.List.{length-set, get_or-set_same, get_or-set_other, get_or_default, length-append, take_more_set}
use Rattle.std.proofs.lemmas.List.Elements.{Contains-push, Contains-push_cases, Contains-append_left, Contains-get_or}
use Rattle.std.proofs.lemmas.List.Sorted.{Contains-permutation, IsPermutation-sym, sum_by-IsPermutation}
use Rattle.std.proofs.lemmas.List.Sums.{sum_by-append, count_by_more_yes, sum_by-take-le}
use Rattle.amd_model.specs.Below.{count_below}
use Rattle.amd_model.proofs.Counting.Below.{sum_at, count_most}
use Rattle.amd_factor.specs.Gathering.{Column, EntryOf, Marks, Completes}

-- what stands in no place of a list is counted nowhere in it
count_absent : (xs : List ℕ) (v : ℕ) → ((k : ℕ) → k < length xs → slice_index xs k ≢ v) → count_by (λ x. x == v) xs ≡ 0
count_absent [] v none = refl
count_absent (x ∷ xs) v none =
    let first : (x == v) ≡ false = ne_eqb x v (none 0 (omega arith)) in
    let rest = count_absent xs v (λ k l. none (suc k) (omega arith)) in
    rw first rest

-- a number that stands at two neighbouring places is counted twice
count_twice : (xs : List ℕ) (i v : ℕ) → i + 1 < length xs → slice_index xs i ≡ v → slice_index xs (i + 1) ≡ v →
    2 ≤ count_by (λ x. x == v) xs
count_twice xs i v l a b =
    let one = count_by_more_yes (λ x. x == v) xs i 0 (omega arith) (eq-eqb (slice_index xs i) v a) in
    let two = count_by_more_yes (λ x. x == v) xs (i + 1) 0 l (eq-eqb (slice_index xs (i + 1)) v b) in
    let most = sum_by-take-le (λ x. cond (x == v) 1 0) xs (i + 1 + 1) in
    omega (arith, one, two, most)

one : Bool → ℕ
one b = cond b 1 0

-- one number more passes
count_one_more : (n k stamp : ℕ) (mark : List ℕ) → k < n → n ≡ length mark → slice_index mark k ≢ stamp →
    count_below n (λ j. slice_index (set mark k stamp) j == stamp) ≡ count_below n (λ j. slice_index mark j == stamp) + 1
unfolding count_below one
count_one_more n k stamp mark l size new =
    let s = sum_at n (λ j. one (slice_index (set mark k stamp) j == stamp)) (λ j. one (slice_index mark j == stamp)) k l
    (λ j lj ne. ap (λ m. one (m == stamp)) (get_or-set_other mark k j stamp 0 ne)) in
    let a = ap one (ne_eqb (slice_index mark k) stamp new) in
    let b = ap one
    (eq-eqb (slice_index (set mark k stamp) k) stamp (get_or-set_same mark k stamp 0 (omega (arith, size, l)))) in
    omega (arith, s, a, b)

-- a place of a list, by what it contains
pub place_in : (xs : List ℕ) (v : ℕ) → Contains xs v → (k : ℕ) × (k < length xs) × (slice_index xs k ≡ v)
place_in xs v h = (h.0, h.1, get_or_default xs h.0 0 v h.1 ∙ h.2)

module _ (c : Column) (stamp : ℕ) (fresh mark : List ℕ) (m : Marks c stamp fresh mark) where
  -- one row more
  module _ (row : ℕ) (entry : EntryOf c row) (new : slice_index mark row ≢ stamp) where
    low : row < length mark
    low = let r = m.room in let b = entry.1 in omega (arith, r, b)

    here : slice_index (set mark row stamp) row ≡ stamp
    here = get_or-set_same mark row stamp 0 low

    there : (j : ℕ) → j ≢ row → slice_index (set mark row stamp) j ≡ slice_index mark j
    there j ne = get_or-set_other mark row j stamp 0 ne

    not_yet : Contains c.inherited row ⊎ Contains fresh row → ⊥
    not_yet h = new ((m.marked row entry.0 entry.1).1 h)

    pub room_for_one : length fresh < length c.order.rows
    room_for_one =
        let a = m.few in let b = count_one_more (length c.order.rows) row stamp mark entry.1 (sym m.room) new in
        let d = count_most (length c.order.rows) (λ j. slice_index (set mark row stamp) j == stamp) in
        omega (arith, a, b, d)

    pub marks_more : Marks c stamp (fresh ++ row ∷ []) (set mark row stamp)
    marks_more = record {
      room = length-set mark row stamp ∙ m.room;
      recent = m.recent;
      low = λ j l. elim (cases_eq j row) [
        | inl q ↦ (let a = ap (slice_index (set mark row stamp)) q in let b = here in let r = m.recent in omega (arith, a, b, r))
        | inr ne ↦ (let a = there j ne in let b = m.low j l in omega (arith, a, b))
      ];
      marked = λ j k l. (
        (λ e. elim (cases_eq j row) [
          | inl q ↦ inr (subst (λ x. Contains (fresh ++ row ∷ []) x) (sym q) (Contains-push fresh row))
          | inr ne ↦ elim ((m.marked j k l).0 (sym (there j ne) ∙ e)) [
            | inl a ↦ inl a
            | inr b ↦ inr (Contains-append_left fresh (row ∷ []) j b)
          ]
        ]),
        (λ h. elim (cases_eq j row) [
          | inl q ↦ ap (slice_index (set mark row stamp)) q ∙ here
          | inr ne ↦ there j ne ∙ (m.marked j k l).1 (elim h [
            | inl a ↦ inl a
            | inr b ↦ elim (Contains-push_cases fresh row j b) [ inl x ↦ inr x | inr q ↦ absurd (ne (sym q)) ]
          ])
        ]),
      );
      entries = λ j h. elim (Contains-push_cases fresh row j h) [ inl x ↦ m.entries j x | inr q ↦ subst (EntryOf c) q entry ];
      apart = λ j h i. elim (Contains-push_cases fresh row j h) [
        | inl x ↦ m.apart j x i
        | inr q ↦ not_yet (inl (subst (λ x. Contains c.inherited x) (sym q) i))
      ];
      once = λ j. (let s = sum_by-append (λ x. cond (x == j) 1 0) fresh (row ∷ []) in let o = m.once j in
          elim (cases_eq row j) [
            | inl q ↦ (let z = count_absent fresh j (λ k l e. not_yet (inr (subst (λ x. Contains fresh x) (e ∙ sym q)
                (Contains-get_or fresh k 0 l)))) in
                let one : count_by (λ x. x == j) (row ∷ []) ≡ 1 = rw (eq-eqb row j q) refl in omega (arith, s, z, one))
            | inr ne ↦ (let none : count_by (λ x. x == j) (row ∷ []) ≡ 0 = rw (ne_eqb row j ne) refl in omega (arith, s, none, o))
          ]);
      few = (let s = length-append fresh (row ∷ []) in let a = m.few in
          let b = count_one_more (length c.order.rows) row stamp mark entry.1 (sym m.room) new in omega (arith, s, a, b));
    }

  -- all of them, sorted
  pub sorted_rises : (ys : List ℕ) → IsPermutation fresh ys → IsNonDecreasing ys → IsStrictlyIncreasing ys
  sorted_rises ys p up i l = elim (cases_eq (slice_index ys i) (slice_index ys (i + 1))) [
    | inl q ↦ absurd (let t = count_twice ys i (slice_index ys (i + 1)) l q refl in let o = m.once (slice_index ys (i + 1)) in
        let s = sum_by-IsPermutation (λ x. cond (x == slice_index ys (i + 1)) 1 0) fresh ys p in omega (arith, t, o, s))
    | inr ne ↦ (let u = up i (i + 1) 0 (omega arith) l in omega (arith, u, ne))
  ]

  pub completes : (ys : List ℕ) → IsPermutation fresh ys → IsNonDecreasing ys →
      ((j : ℕ) → Contains c.inherited j → EntryOf c j) → ((j : ℕ) → EntryOf c j → slice_index mark j ≡ stamp) → Completes c ys
  completes ys p up sound all = record {
    rising = sorted_rises ys p up;
    apart = λ j a b. m.apart j (Contains-permutation ys fresh j (IsPermutation-sym fresh ys p) b) a;
    members = λ j. (
      (λ h. elim h [
        | inl a ↦ sound j a
        | inr b ↦ m.entries j (Contains-permutation ys fresh j (IsPermutation-sym fresh ys p) b)
      ]),
      (λ e. elim ((m.marked j e.0 e.1).0 (all j e)) [ inl a ↦ inl a | inr b ↦ inr (Contains-permutation fresh ys j p b) ]),
    );
  }

-- a list that grew by what stands behind it
pub listed_more : (xs : List ℕ) (i y : ℕ) → i < length xs → (P : List ℕ → Type 0) → P (take i xs ++ y ∷ []) → P (take (i + 1) (set xs i y))
listed_more xs i y l P h = subst P (sym (take_more_set xs i y l)) h
