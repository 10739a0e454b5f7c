-- The columns of a factor by its elimination tree: from paths to subtrees, and back.
use Rattle.std.proofs.Common.{ℕ, zero, suc, Bool, true, false, ◌≡◌, ◌<◌, ◌≤◌, ◌-◌, ◌==◌, ◌||◌, ◌⊎◌, inl, inr, refl, sym, ◌∙◌, ap, subst}
use Rattle.std.proofs.Common.{arith, List, length}
use Rattle.std.specs.Prelude.{slice_index}
use Rattle.std.proofs.lemmas.Bool.{cases_eq, cases_lt, eqb-true, eq-eqb, cases_Bool}
use Rattle.amd_model.specs.Below.{any_below}
use Rattle.amd_model.specs.Graph.{Graph, IsGraph}
use Rattle.amd_model.specs.Reach.{Reach, direct, by}
use Rattle.amd_model.specs.Factor.{before}
use Rattle.amd_model.proofs.Counting.Below.{any_from, any_gives, any_none, clash}
use Rattle.amd_model.proofs.States.Words.{reach_more, reach_join, reach_flip}
use Rattle.amd_model.proofs.Listings.ReachTest.{in_column, in_column_exact}
use Rattle.amd_factor.specs.Trees.{Entry, IsParent, Over, itself, up, InSubtree, RowsAreSubtrees}

-- the least number that passes
least_below : (n : ℕ) (t : ℕ → Bool) → any_below n t ≡ true → (q : ℕ) × (q < n) × (t q ≡ true) × ((j : ℕ) → t j ≡ true → q ≤ j)
unfolding any_below
least_below zero t h = absurd (clash h refl)
least_below (suc n) t h = elim (cases_Bool (any_below n t)) [
  | inl some ↦ (let r = least_below n t some in (r.0, (let l = r.1 in omega (arith, l)), r.2, r.3))
  | inr none ↦ (
    n,
    omega arith,
    here (t n) h none refl,
    λ j tj. elim (cases_lt j n) [
      | inl l ↦ clash tj (any_none n t none j l)
      | inr l ↦ l
    ],
  )
]
  where
    here : (b : Bool) → (b || any_below n t) ≡ true → any_below n t ≡ false → t n ≡ b → t n ≡ true
    here true h none q = q
    here false h none q = clash h none

module _ (g : Graph) (p : List ℕ) where
  -- the row at an earlier place stands before
  before_at : (k i : ℕ) → i < k → before p k (slice_index p i) ≡ true
  unfolding before
  before_at k i l = any_from k (λ j. slice_index p j == slice_index p i) i l (eq-eqb (slice_index p i) (slice_index p i) refl)

  -- a row that stands before is at an earlier place
  at_before : (k u : ℕ) → before p k u ≡ true → (i : ℕ) × (i < k) × (slice_index p i ≡ u)
  unfolding before
  at_before k u h = let r = any_gives k (λ j. slice_index p j == u) h in (r.0, r.1, eqb-true (slice_index p r.0) u r.2)

  before_more : (i k u : ℕ) → i ≤ k → before p i u ≡ true → before p k u ≡ true
  before_more i k u l h = let r = at_before i u h in subst (λ v. before p k v ≡ true) r.2
      (before_at k r.0 (let m = r.1 in omega (arith, m)))

  reach_later : (i k : ℕ) {v w : ℕ} → i ≤ k → Reach g (before p i) v w → Reach g (before p k) v w
  reach_later i k l r = reach_more g (before p i) (before p k) (λ u h. before_more i k u l h) r

  -- a path through the rows before k, from i or from a row that i reaches, comes to a first place after i
  record FirstAfter (i k v : ℕ) : Type 0 where
    place : ℕ
    after : i < place
    most : place ≤ k
    reached : Reach g (before p i) v (slice_index p place) ⊎ Reach g (before p i) (slice_index p i) (slice_index p place)

  first_after : (i k : ℕ) → i < k → {v w : ℕ} → Reach g (before p k) v w → w ≡ slice_index p k → FirstAfter i k v
  first_after i k l {v} {w} (direct e) q = record {
    place = k;
    after = l;
    most = omega arith;
    reached =
        inl (subst (λ x. Reach g (before p i) v x) q (direct e));
  }
  first_after i k l {v} {w} (by {u = u} e t r) q =
      let a = at_before k u t in
      let rest = first_after i k l r q in
      elim (cases_lt i a.0) [
        | inl m ↦ record {
          place = a.0;
          after = m;
          most = (let n = a.1 in omega (arith, n));
          reached =
              inl (subst (λ x. Reach g (before p i) v x) (sym a.2) (direct e));
        }
        | inr m ↦ elim (cases_eq a.0 i) [
          | inl same ↦ record {
            place = rest.place;
            after = rest.after;
            most = rest.most;
            reached = elim rest.reached [
              | inl x ↦ inr (subst (λ y. Reach g (before p i) y (slice_index p rest.place)) (sym a.2 ∙ ap (slice_index p) same) x)
              | inr x ↦ inr x
            ];
          }
          | inr ne ↦ record {
            place = rest.place;
            after = rest.after;
            most = rest.most;
            reached = elim rest.reached [
              | inl x ↦ inl (by e (subst (λ y. before p i y ≡ true) a.2 (before_at i a.0 (omega arith))) x)
              | inr x ↦ inr x
            ];
          }
        ]
      ]

  -- what i reaches through the rows before k, it reaches by an entry of its column that is at most k
  entry_before : (i k : ℕ) → i < k → k < length p → Reach g (before p k) (slice_index p i) (slice_index p k) →
      (m : ℕ) × (m ≤ k) × Entry g p i m
  entry_before i k l n r = let f = first_after i k l r refl in
      (f.place, f.most, (f.after, omega (arith, f.most), elim f.reached [ inl x ↦ x | inr x ↦ x ]))

  module _ (laws : IsGraph g) where
    -- a place with an entry has a parent
    pub parent_of : (i m : ℕ) → Entry g p i m → (q : ℕ) × (q ≤ m) × IsParent g p i q
    parent_of i m e =
        let t : ℕ → Bool = in_column g p i in
        let r = least_below (suc m) t (any_from (suc m) t m (omega arith) ((in_column_exact g p laws i m).1 (e.0, e.2))) in
        let x = (in_column_exact g p laws i r.0).0 r.2 in
        let most : r.0 ≤ m = (let n = r.1 in omega (arith, n)) in (
          r.0,
          most,
          record {
            entry = (x.0, (let n = e.1 in omega (arith, n, most)), x.1);
            first = λ j d. r.3 j ((in_column_exact g p laws i j).1 (d.0, d.2));
          },
        )

    -- a place that reaches k through the rows before k is k or stands under it
    reach_over : (fuel i k : ℕ) → k - i ≤ fuel → i < k → k < length p → Reach g (before p k) (slice_index p i) (slice_index p k) →
        Over g p i k
    reach_over zero i k f l n r = absurd (omega arith)
    reach_over (suc fuel) i k f l n r =
        let e = entry_before i k l n r in
        let q = parent_of i e.0 e.2 in
        let entry = q.2.entry in
        let low : i < q.0 = entry.0 in
        let high : q.0 ≤ k = (let a = q.1 in let b = e.1 in omega (arith, a, b)) in
        up q.2 (elim (cases_eq q.0 k) [
          | inl same ↦ subst (λ x. Over g p q.0 x) same itself
          | inr ne ↦ reach_over fuel q.0 k (omega (arith, low, high, f)) (omega (arith, high, ne)) n
              (reach_join g (before p k) (reach_later i k (omega arith) (reach_flip g laws (before p i) entry.2)) (before_at k i l) r)
        ])

    pub over_most : {i k : ℕ} → Over g p i k → i ≤ k
    over_most itself = omega arith
    over_most (up h o) = let a = h.entry.0 in let b = over_most o in omega (arith, a, b)

    -- a place reaches what stands over it
    over_reach : {i k : ℕ} → Over g p i k → (i ≡ k) ⊎ Reach g (before p k) (slice_index p i) (slice_index p k)
    over_reach itself = inl refl
    over_reach {i} {k} (up {parent = q} h o) =
        let low : i < q = h.entry.0 in
        let high : q ≤ k = over_most o in
        let there : Reach g (before p k) (slice_index p i) (slice_index p q) = reach_later i k (omega arith) h.entry.2 in
        inr (elim (over_reach o) [
          | inl same ↦ subst (λ x. Reach g (before p k) (slice_index p i) (slice_index p x)) same there
          | inr r ↦ elim (cases_eq q k) [
            | inl same ↦ subst (λ x. Reach g (before p k) (slice_index p i) (slice_index p x)) same there
            | inr ne ↦ reach_join g (before p k) there (before_at k q (omega arith)) r
          ]
        ])

    pub entry_in_subtree : (k j : ℕ) → Entry g p k j → InSubtree g p j k
    entry_in_subtree k j e = go (reach_flip g laws (before p k) e.2)
      where
        go : Reach g (before p k) (slice_index p j) (slice_index p k) → InSubtree g p j k
        go (direct d) = (k, e.0, sym (laws.symmetric (slice_index p j) (slice_index p k)) ∙ d, itself)
        go (by {u = u} d t r) = let a = at_before k u t in
            let l = a.1 in let m = e.0 in let n = e.1 in (
              a.0,
              omega (arith, l, m),
              subst (λ x. g.edge x (slice_index p j) ≡ true) (sym a.2) (sym (laws.symmetric (slice_index p j) u) ∙ d),
              reach_over k a.0 k (omega arith) l (omega (arith, m, n)) (subst (λ x. Reach g (before p k) x (slice_index p k)) (sym a.2) r),
            )

    pub subtree_entry : (k j : ℕ) → k < j → j < length p → InSubtree g p j k → Entry g p k j
    subtree_entry k j l n s = (
      l,
      n,
      elim (over_reach s.3) [
        | inl same ↦ direct (subst (λ x. g.edge (slice_index p x) (slice_index p j) ≡ true) same s.2)
        | inr r ↦ elim (cases_eq s.0 k) [
          | inl same ↦ direct (subst (λ x. g.edge (slice_index p x) (slice_index p j) ≡ true) same s.2)
          | inr ne ↦ reach_join g (before p k) (reach_flip g laws (before p k) r)
              (before_at k s.0 (let m = over_most s.3 in omega (arith, m, ne))) (direct s.2)
        ]
      ],
    )

pub rows_are_subtrees : RowsAreSubtrees
rows_are_subtrees g laws p k j l n = (entry_in_subtree g p laws k j, subtree_entry g p laws k j l n)
