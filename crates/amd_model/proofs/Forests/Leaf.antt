-- In a forest each set of rows has a row with at most one neighbour in the set: a walk that never turns back meets itself, or ends there.
use Rattle.std.proofs.Common.{ℕ, zero, suc, Bool, true, ◌≡◌, ◌≢◌, ◌<◌, ◌≤◌, ◌+◌, ◌-◌, ◌&&◌, not, inl, inr, refl, sym, ◌∙◌, ap, subst, arith}
use Rattle.std.proofs.Common.{List, [], ◌∷◌, length}
use Rattle.std.specs.Prelude.{◌==◌, slice_index}
use Rattle.std.proofs.lemmas.Bool.{and_parts, and_from, cases_eq, cases_Bool, true≢false, eq-eqb, ne_eqb, not-true, not_from_false}
use Rattle.amd_model.specs.Below.{any_below, count_below}
use Rattle.amd_model.specs.Graph.{Graph, IsGraph}
use Rattle.amd_model.specs.Forest.{IsForest}
use Rattle.amd_model.proofs.Counting.Below.{any_gives, any_none}
use Rattle.amd_model.proofs.Counting.Points.{count_one, pigeonhole}

-- the list of the first values of a function
values : (ℕ → ℕ) → ℕ → List ℕ
values f zero = []
values f (suc n) = f 0 ∷ values (λ k. f (suc k)) n

values_length : (f : ℕ → ℕ) (n : ℕ) → length (values f n) ≡ n
unfolding values
values_length f zero = refl
values_length f (suc n) = ap suc (values_length (λ k. f (suc k)) n)

values_index : (f : ℕ → ℕ) (n k : ℕ) → k < n → slice_index (values f n) k ≡ f k
unfolding values
values_index f zero k l = absurd (omega arith)
values_index f (suc n) zero l = refl
values_index f (suc n) (suc k) l = values_index (λ k. f (suc k)) n k (omega arith)

-- the walk with a row in front
push : ℕ → (ℕ → ℕ) → ℕ → ℕ
push w f zero = w
push w f (suc k) = f k

module _ (g : Graph) (laws : IsGraph g) (forest : IsForest g) (in_set : ℕ → Bool) (small : (v : ℕ) → in_set v ≡ true → v < g.size) where
  -- rows of the set at the places up to m, all different, each joined to the next
  record IsWalk (f : ℕ → ℕ) (m : ℕ) : Type 0 where
    differ : (j k : ℕ) → j < k → k < m + 1 → f j ≢ f k
    joined : (k : ℕ) → k < m → g.edge (f k) (f (k + 1)) ≡ true
    inside : (k : ℕ) → k < m + 1 → in_set (f k) ≡ true

  -- a walk whose last row is joined to its first makes a cycle
  no_return : (f : ℕ → ℕ) (m j : ℕ) → IsWalk f m → 2 ≤ j → j ≤ m → g.edge (f j) (f 0) ≡ true → ⊥
  no_return f m j walk two l back =
      let len : length (values f (j + 1)) ≡ j + 1 = values_length f (j + 1) in
      let at : (k : ℕ) → k ≤ j → slice_index (values f (j + 1)) k ≡ f k = λ k lk. values_index f (j + 1) k (omega arith) in
      forest (values f (j + 1)) (record {
        three = omega arith;
        differ = λ i k li lk. let li' : i ≤ j = omega arith in let lk' : k ≤ j = omega arith in
            λ e. walk.differ i k li (omega arith) (sym (at i li') ∙ e ∙ at k lk');
        joined = λ k lk. let l0 : k ≤ j = omega arith in let l1 : k + 1 ≤ j = omega arith in
            subst (λ v. g.edge v (slice_index (values f (j + 1)) (k + 1)) ≡ true) (sym (at k l0))
            (subst (λ v. g.edge (f k) v ≡ true) (sym (at (k + 1) l1)) (walk.joined k (omega arith)));
        closed = let last : length (values f (j + 1)) - 1 ≡ j = omega arith in let z : 0 ≤ j = omega arith in
            let lj : j ≤ j = omega arith in
            subst (λ i. g.edge (slice_index (values f (j + 1)) i) (slice_index (values f (j + 1)) 0) ≡ true) (sym last)
            (subst (λ v. g.edge v (slice_index (values f (j + 1)) 0) ≡ true) (sym (at j lj))
            (subst (λ v. g.edge (f j) v ≡ true) (sym (at 0 z)) back));
      })

  -- a neighbour of the first row that is not the second one is new
  is_new : (f : ℕ → ℕ) (m w : ℕ) → IsWalk f m → g.edge (f 0) w ≡ true → w ≢ f 1 → (k : ℕ) → k < m + 1 → w ≢ f k
  is_new f m w walk e ne zero l q = true≢false (sym e ∙ ap (g.edge (f 0)) q ∙ laws.no_loop (f 0))
  is_new f m w walk e ne (suc zero) l q = ne q
  is_new f m w walk e ne (suc (suc k)) l q = no_return f m (suc (suc k)) walk (omega arith) (omega arith)
      (subst (λ v. g.edge v (f 0) ≡ true) q (laws.symmetric w (f 0) ∙ e))

  longer : (f : ℕ → ℕ) (m w : ℕ) → IsWalk f m → in_set w ≡ true → g.edge (f 0) w ≡ true → w ≢ f 1 → IsWalk (push w f) (m + 1)
  unfolding push
  longer f m w walk is e ne = record { differ = differ; joined = joined; inside = inside }
    where
      differ : (j k : ℕ) → j < k → k < m + 1 + 1 → push w f j ≢ push w f k
      differ zero zero l lk = absurd (omega arith)
      differ zero (suc k) l lk = is_new f m w walk e ne k (omega arith)
      differ (suc j) zero l lk = absurd (omega arith)
      differ (suc j) (suc k) l lk = walk.differ j k (omega arith) (omega arith)

      joined : (k : ℕ) → k < m + 1 → g.edge (push w f k) (push w f (k + 1)) ≡ true
      joined zero l = laws.symmetric w (f 0) ∙ e
      joined (suc k) l = let z : suc k + 1 ≡ suc (k + 1) = omega arith in
          subst (λ i. g.edge (f k) (push w f i) ≡ true) (sym z) (walk.joined k (omega arith))

      inside : (k : ℕ) → k < m + 1 + 1 → in_set (push w f k) ≡ true
      inside zero l = is
      inside (suc k) l = walk.inside k (omega arith)

  -- a row of the set with at most one neighbour there
  abbrev pub IsLeaf : ℕ → Type 0
  IsLeaf v = (in_set v ≡ true) × (count_below g.size (λ w. in_set w && g.edge v w) ≤ 1)

  walk_on : (fuel m : ℕ) (f : ℕ → ℕ) → IsWalk f m → g.size ≤ m + fuel → (v : ℕ) × IsLeaf v
  walk_on zero m f walk enough = absurd (
      let most : m + 1 ≤ g.size = pigeonhole g.size (m + 1) f (λ k l. small (f k) (walk.inside k l)) walk.differ in omega arith)
  walk_on (suc fuel) m f walk enough =
      let onward : ℕ → Bool = λ w. in_set w && g.edge (f 0) w && not (w == f 1) in
      elim (cases_Bool (any_below g.size onward)) [
        | inr none' ↦ (
          f 0,
          (
            walk.inside 0 (omega arith),
            count_one g.size (λ w. in_set w && g.edge (f 0) w) (f 1) (λ k l both. elim (cases_eq k (f 1)) [
              | inl q ↦ q
              | inr ne ↦ absurd (true≢false
                  (sym (and_from (in_set k && g.edge (f 0) k) (not (k == f 1)) both (not_from_false (k == f 1) (ne_eqb k (f 1) ne))) ∙
                  any_none g.size onward none' k l))
            ]),
          ),
        )
        | inl some' ↦ (
            let w = any_gives g.size onward some' in
            let parts = and_parts (in_set w.0 && g.edge (f 0) w.0) (not (w.0 == f 1)) w.2 in
            let both = and_parts (in_set w.0) (g.edge (f 0) w.0) parts.0 in
            walk_on fuel (m + 1) (push w.0 f)
            (longer f m w.0 walk both.0 both.1 (λ q. true≢false (sym (eq-eqb w.0 (f 1) q) ∙ not-true (w.0 == f 1) parts.1)))
            (omega arith))
      ]

  pub leaf : (v : ℕ) → in_set v ≡ true → (w : ℕ) × IsLeaf w
  leaf v is = walk_on g.size 0 (λ k. v) (record {
    differ = λ j k l lk. absurd (omega arith);
    joined = λ k l. absurd (omega arith);
    inside = λ k l. is;
  }) (omega arith)
