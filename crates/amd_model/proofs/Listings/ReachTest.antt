-- A test for paths (Warshall's recursion), and with it the factor under an order of the rows.
use Rattle.std.proofs.Common.{ℕ, zero, suc, Bool, true, ◌≡◌, ◌<◌, ◌&&◌, ◌||◌, ◌⊎◌, inl, inr, refl, sym, ◌∙◌, ap, subst, arith, List, []}
use Rattle.std.proofs.Common.{◌∷◌, ◌++◌, length}
use Rattle.std.specs.Prelude.{nat_lt, slice_index, slice_index_or, ◌↔◌}
use Rattle.std.proofs.lemmas.Bool.{cases_eq, and_parts, and_from, or_cases, or_left, or_right, ltb-true, lt-ltb}
use Rattle.std.proofs.lemmas.List.{get_or_append_left, length-append}
use Rattle.std.proofs.Math.Seq.{get_or-append_seam}
use Rattle.amd_model.specs.Below.{list_below}
use Rattle.amd_model.specs.Graph.{Graph, IsGraph}
use Rattle.amd_model.specs.Reach.{Reach, direct, by}
use Rattle.amd_model.specs.Factor.{before, IsColumn, IsFactor}
use Rattle.amd_model.proofs.States.Words.{reach_join, edge_small}
use Rattle.amd_model.proofs.Listings.Words.{has_below, below_has}
use Rattle.amd_model.proofs.Counting.Places.{contains_has, has_contains, below_increasing}

-- w is reached from v through rows of the set that lie below m
unfoldable pub reaches : Graph → (ℕ → Bool) → ℕ → ℕ → ℕ → Bool
reaches g through zero v w = g.edge v w
reaches g through (suc m) v w = reaches g through m v w || (through m && reaches g through m v m && reaches g through m m w)

module _ (g : Graph) (through : ℕ → Bool) where
  reaches_path : (m v w : ℕ) → reaches g through m v w ≡ true → Reach g through v w
  unfolding reaches
  reaches_path zero v w h = direct h
  reaches_path (suc m) v w h =
      elim (or_cases (reaches g through m v w) (through m && reaches g through m v m && reaches g through m m w) h) [
        | inl a ↦ reaches_path m v w a
        | inr a ↦ (let q = and_parts (through m && reaches g through m v m) (reaches g through m m w) a in
            let r = and_parts (through m) (reaches g through m v m) q.0 in
            reach_join g through (reaches_path m v m r.1) r.0 (reaches_path m m w q.1))
      ]

  -- the rows of the set below m
  below : ℕ → ℕ → Bool
  below m u = through u && nat_lt u m

  below_gives : (m u : ℕ) → below m u ≡ true → (through u ≡ true) × (u < m)
  unfolding below
  below_gives m u h = let r = and_parts (through u) (nat_lt u m) h in (r.0, ltb-true u m r.1)

  below_from : (m u : ℕ) → through u ≡ true → u < m → below m u ≡ true
  unfolding below
  below_from m u t l = and_from (through u) (nat_lt u m) t (lt-ltb u m l)

  record Across (m v w : ℕ) : Type 0 where
    allowed : through m ≡ true
    first : Reach g (below m) v m
    second : Reach g (below m) m w

  -- a path avoids m, or parts at m
  part_path : (m : ℕ) {v w : ℕ} → Reach g (below (suc m)) v w → Reach g (below m) v w ⊎ Across m v w
  part_path m (direct e) = inl (direct e)
  part_path m {v} {w} (by {u = u} e x r) = let b = below_gives (suc m) u x in
      elim (cases_eq u m) [
        | inl q ↦ inr (record {
          allowed = subst (λ k. through k ≡ true) q b.0;
          first = direct (subst (λ k. g.edge v k ≡ true) q e);
          second = elim (part_path m r) [ inl a ↦ subst (λ k. Reach g (below m) k w) q a | inr a ↦ a.second ];
        })
        | inr ne ↦ (let l = b.1 in let x' = below_from m u b.0 (omega (arith, l)) in
            elim (part_path m r) [
              | inl a ↦ inl (by e x' a)
              | inr a ↦ inr (record { allowed = a.allowed; first = by e x' a.first; second = a.second })
            ])
      ]

  path_reaches : (m : ℕ) {v w : ℕ} → Reach g (below m) v w → reaches g through m v w ≡ true
  unfolding reaches
  path_reaches zero (direct e) = e
  path_reaches zero (by {u = u} e x r) = absurd (let l = (below_gives zero u x).1 in omega (arith, l))
  path_reaches (suc m) {v} {w} r = elim (part_path m r) [
    | inl a ↦ or_left (reaches g through m v w) (through m && reaches g through m v m && reaches g through m m w) (path_reaches m a)
    | inr a ↦ or_right (reaches g through m v w) (through m && reaches g through m v m && reaches g through m m w)
        (and_from (through m && reaches g through m v m) (reaches g through m m w)
        (and_from (through m) (reaches g through m v m) a.allowed (path_reaches m a.first)) (path_reaches m a.second))
  ]

  module _ (laws : IsGraph g) where
    within : {v w : ℕ} → Reach g through v w → Reach g (below g.size) v w
    within (direct e) = direct e
    within (by {v = v} {u = u} e x r) = by e (below_from g.size u x (edge_small g laws v u e).1) (within r)

    -- the test is exact
    pub reach_test : (v w : ℕ) → (reaches g through g.size v w ≡ true) ↔ Reach g through v w
    reach_test v w = (reaches_path g.size v w, λ r. path_reaches g.size (within r))

module _ (g : Graph) (p : List ℕ) where
  -- place j is in the column of place k
  unfoldable pub in_column : ℕ → ℕ → Bool
  in_column k j = nat_lt k j && reaches g (before p k) g.size (slice_index p k) (slice_index p j)

  unfoldable pub column : ℕ → List ℕ
  column k = list_below (length p) (in_column k)

  -- the columns of the first n places
  unfoldable pub columns_to : ℕ → List (List ℕ)
  columns_to zero = []
  columns_to (suc n) = columns_to n ++ column n ∷ []

  unfoldable pub columns : List (List ℕ)
  columns = columns_to (length p)

  length_columns_to : (n : ℕ) → length (columns_to n) ≡ n
  unfolding columns_to
  length_columns_to zero = refl
  length_columns_to (suc n) = let a = length-append (columns_to n) (column n ∷ []) in let b = length_columns_to n in omega (arith, a, b)

  column_at : (n k : ℕ) (d : List ℕ) → k < n → slice_index_or (columns_to n) k d ≡ column k
  unfolding columns_to
  column_at zero k d l = absurd (omega arith)
  column_at (suc n) k d l = let len = length_columns_to n in elim (cases_eq k n) [
    | inl q ↦ subst (λ i. slice_index_or (columns_to n ++ column n ∷ []) i d ≡ column k) (len ∙ sym q)
        (get_or-append_seam (columns_to n) (column n) [] d ∙ ap column (sym q))
    | inr ne ↦ get_or_append_left (columns_to n) (column n ∷ []) d k (omega (arith, len)) ∙ column_at n k d (omega arith)
  ]

  module _ (laws : IsGraph g) where
    pub in_column_exact : (k j : ℕ) → (in_column k j ≡ true) ↔ ((k < j) × Reach g (before p k) (slice_index p k) (slice_index p j))
    unfolding in_column
    in_column_exact k j = let test = reach_test g (before p k) laws (slice_index p k) (slice_index p j) in (
      (λ h. let r = and_parts (nat_lt k j) (reaches g (before p k) g.size (slice_index p k) (slice_index p j)) h in
          (ltb-true k j r.0, test.0 r.1)),
      (λ h. and_from (nat_lt k j) (reaches g (before p k) g.size (slice_index p k) (slice_index p j)) (lt-ltb k j h.0) (test.1 h.1)),
    )

    is_column : (k : ℕ) → IsColumn g p k (column k)
    unfolding column
    is_column k = record {
      rising = below_increasing (length p) (in_column k);
      members = λ j. (
        (λ c. let r = has_below (length p) (in_column k) j (contains_has (column k) j c) in let x = (in_column_exact k j).0 r.1 in
            (x.0, r.0, x.1)),
        (λ x. has_contains (column k) j (below_has (length p) (in_column k) j x.1 ((in_column_exact k j).1 (x.0, x.2)))),
      );
    }

    -- the columns are those of the factor
    pub factor_of : IsFactor g p columns
    unfolding columns
    factor_of = record {
      places = length_columns_to (length p);
      each = λ k d l. subst (IsColumn g p k) (sym (column_at (length p) k d l)) (is_column k);
    }
