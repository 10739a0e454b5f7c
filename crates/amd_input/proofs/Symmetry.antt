-- The pairs of a sorted form are as many as its places, and a pattern is symmetric where its graph has as many arcs as the
-- pattern has pairs off the diagonal.
use Rattle.std.proofs.Common.{◌≡◌, ◌≢◌, ◌+◌, ◌-◌, ◌*◌, ◌<◌, ◌≤◌, inl, inr, ℕ, ℤ, zero, suc, Bool, true, false, pos, List, get_or, arith}
use Rattle.std.proofs.Common.{refl, ap, sym, ◌∙◌, cond, eqb, ltb, ◌||◌, ◌&&◌, not}
use Rattle.std.proofs.lemmas.Bool.{and_parts, and_from, or_left, or_right, cases_eq, cases_Bool, eq-eqb, ne_eqb, lt-ltb}
use Rattle.std.proofs.lemmas.Int.{ints}
use Rattle.amd_model.specs.Below.{sum_below, count_below}
use Rattle.amd_model.specs.Graph.{degree, degree_sum}
use Rattle.amd_model.specs.Input.Columns.{IsColumnForm, IsSorted}
use Rattle.amd_model.specs.Input.Pattern.{is_pair, graph_of, pair_count, diagonal_count, IsSymmetric}
use Rattle.amd_model.proofs.Counting.Below.{sum_mono, sum_plus, sum_same, count_mono, count_or, count_same, count_none}
use Rattle.amd_model.proofs.Counting.Pigeonhole.{sum_swap}
use Rattle.amd_model.proofs.Patterns.StartingLists.{pair_small}
use Rattle.amd_types.specs.Naturals.{naturals, is_before, is_entry}
use Rattle.amd_edges.proofs.Forms.{IsSortedForm, sorted_form, same_pair, pointer_is}
use Rattle.amd_edges.proofs.Places.{before_none, before_more}
use Rattle.amd_edges.proofs.Arcs.{count_more}

abbrev pub one_if : Bool → ℕ
one_if b = cond b 1 0

-- sums of terms that are at most others, and no less in all, are term by term the same
sums_same : (n : ℕ) (f g : ℕ → ℕ) → ((k : ℕ) → k < n → f k ≤ g k) → sum_below n g ≤ sum_below n f → (k : ℕ) → k < n → f k ≡ g k
unfolding sum_below
sums_same zero f g h e k l = absurd (omega arith)
sums_same (suc n) f g h e k l =
    let here = h n (omega arith) in
    let below = sum_mono n f g (λ a b. h a (omega arith)) in
    elim (cases_eq k n) [
      | inl same ↦ rw same (omega (arith, here, below, e))
      | inr other ↦ sums_same n f g (λ a b. h a (omega arith)) (omega (arith, here, below, e)) k (omega arith)
    ]

module _ (n : ℕ) (ap' ai : List ℕ) (form : IsSortedForm n ap' ai) where
  column_upto : (j d : ℕ) → j < n → get_or ap' j 0 + d ≤ get_or ap' (j + 1) 0 →
      count_below n (λ i. is_before ap' ai (get_or ap' j 0 + d) i j) ≡ d
  column_upto j zero h up = count_same n _ (λ b. false) (λ k l. before_none ap' ai (get_or ap' j 0 + 0) k j (λ q low high e. omega arith)) ∙
      count_none n
  column_upto j (suc d) h up =
      let q : ℕ = get_or ap' j 0 + d in
      let e : get_or ap' j 0 + suc d ≡ q + 1 = omega arith in
      let before = column_upto j d h (omega arith) in
      let row = form.rows j q h (omega arith) (omega arith) in
      let fresh : is_before ap' ai q (get_or ai q 0) j ≡ false =
      before_none ap' ai q (get_or ai q 0) j (λ r low high same. let w = form.ascend j r q h low high (omega arith) in omega arith) in
      let more = count_more n (λ i. is_before ap' ai q i j) (λ i. is_before ap' ai (q + 1) i j) (get_or ai q 0) row fresh
      (λ b. before_more ap' ai q (get_or ai q 0) j b (omega arith) refl) in
      rw e (omega (arith, more, before))

  -- a column has as many rows as places
  pub column_count : (j : ℕ) → j < n → get_or ap' j 0 + count_below n (λ i. is_entry n ap' ai i j) ≡ get_or ap' (j + 1) 0
  unfolding is_entry
  column_count j h =
      let up = form.rising j h in
      let e : get_or ap' j 0 + (get_or ap' (j + 1) 0 - get_or ap' j 0) ≡ get_or ap' (j + 1) 0 = omega arith in
      let c = column_upto j (get_or ap' (j + 1) 0 - get_or ap' j 0) h (omega arith) in
      let d : count_below n (λ i. is_before ap' ai (get_or ap' (j + 1) 0) i j) ≡ get_or ap' (j + 1) 0 - get_or ap' j 0 = rw e at c in
      let same = count_same n (λ i. ltb j n && is_before ap' ai (get_or ap' (j + 1) 0) i j)
      (λ i. is_before ap' ai (get_or ap' (j + 1) 0) i j) (λ k l. rw (lt-ltb j n h) refl) in
      omega (arith, d, same)

  entries_counted : (k : ℕ) → k ≤ n → get_or ap' 0 0 + sum_below k (λ j. count_below n (λ i. is_entry n ap' ai i j)) ≡ get_or ap' k 0
  unfolding sum_below
  entries_counted zero h = omega arith
  entries_counted (suc k) h = (let a = entries_counted k (omega arith) in let b = column_count k (omega arith) in
      let e : k + 1 ≡ suc k = omega arith in let c = rw e at b in omega (arith, a, c))

-- a test of pairs of rows, and the arcs of its graph
module _ (n : ℕ) (pair : ℕ → ℕ → Bool) where
  pub arc : ℕ → ℕ → Bool
  arc i j = not (eqb i j) && (pair i j || pair j i)

  -- the pairs off the diagonal, seen from the column
  unfoldable pub off : ℕ → ℕ → Bool
  off j i = not (eqb j i) && pair i j

  -- the rows of a column off the diagonal, with the one on it
  pub off_count : (j : ℕ) → j < n → count_below n (λ i. pair i j) ≡ count_below n (off j) + one_if (pair j j)
  unfolding off
  off_count j h = elim (cases_Bool (pair j j)) [
    | inl yes' ↦ rw yes' (count_more n (λ i. not (eqb j i) && pair i j) (λ i. pair i j) j h (rw (eq-eqb j j refl) refl)
        (λ b. elim (cases_eq b j) [
          | inl same ↦ rw (same, yes', eq-eqb j j refl) refl
          | inr ne ↦ rw (ne_eqb b j ne, ne_eqb j b (λ e. ne (sym e))) (or_none (pair b j))
        ]))
    | inr no' ↦ rw no' (count_same n (λ i. pair i j) (λ i. not (eqb j i) && pair i j) (λ k l. elim (cases_eq k j) [
      | inl same ↦ rw (same, no', eq-eqb j j refl) refl
      | inr ne ↦ rw (ne_eqb j k (λ e. ne (sym e))) refl
    ]) ∙ plus_none _)
  ]
    where
      or_none : (x : Bool) → x ≡ (x || false)
      or_none true = refl
      or_none false = refl

      plus_none : (x : ℕ) → x ≡ x + 0
      plus_none x = omega arith

  off_sum : (k : ℕ) → k ≤ n → sum_below k (λ j. count_below n (λ i. pair i j)) ≡ sum_below k (λ j. count_below n (off j)) + count_below k
      (λ j. pair j j)
  unfolding sum_below count_below
  off_sum zero h = refl
  off_sum (suc k) h = (let a = off_sum k (omega arith) in let b = off_count k (omega arith) in omega (arith, a, b))

  off_arc : (j i : ℕ) → off j i ≡ true → arc j i ≡ true
  unfolding off arc
  off_arc j i e = (let p = and_parts (not (eqb j i)) _ e in and_from (not (eqb j i)) _ p.0 (or_right _ _ p.1))

  row_bound : (j : ℕ) → count_below n (arc j) ≤ count_below n (λ i. pair j i) + count_below n (λ i. pair i j)
  unfolding arc
  row_bound j =
      let drop = count_mono n (arc j) (λ i. pair j i || pair i j) (λ i l e. (and_parts (not (eqb j i)) _ e).1) in
      let parts = count_or n (λ i. pair j i) (λ i. pair i j) in
      omega (arith, drop, parts)

  -- each pair gives two arcs at most
  pub arc_bound : sum_below n (λ j. count_below n (arc j)) ≤ 2 * sum_below n (λ j. count_below n (λ i. pair i j))
  unfolding count_below
  arc_bound =
      let rows = sum_mono n (λ j. count_below n (arc j)) (λ j. count_below n (λ i. pair j i) + count_below n (λ i. pair i j))
      (λ j l. row_bound j) in
      let parted = sum_plus n (λ j. count_below n (λ i. pair j i)) (λ j. count_below n (λ i. pair i j)) in
      let turned = sum_swap n n (λ j i. cond (pair j i) 1 0) in
      omega (arith, rows, parted, turned)

  -- where there are as many arcs as pairs off the diagonal, each pair has a mirror
  pub mirrors : ((i j : ℕ) → pair i j ≡ true → (i < n) × (j < n)) →
      sum_below n (λ j. count_below n (arc j)) + count_below n (λ j. pair j j) ≡ sum_below n (λ j. count_below n (λ i. pair i j)) →
      (i j : ℕ) → pair i j ≡ true → pair j i ≡ true
  unfolding off arc count_below
  mirrors inside total i j e = elim (cases_eq i j) [
    | inl same ↦ rw same (rw same at e)
    | inr ne ↦ (
        let row = (inside i j e).0 in
        let column = (inside i j e).1 in
        let parted = off_sum n (omega arith) in
        let same = sums_same n (λ j. count_below n (off j)) (λ j. count_below n (arc j)) (λ k l. count_mono n _ _ (λ q x. off_arc k q))
        (omega (arith, total, parted)) i row in
        let each = sums_same n (λ q. one_if (off i q)) (λ q. one_if (arc i q)) (λ k l. one_mono _ _ (off_arc i k)) (omega (arith, same)) j
        column in
        (and_parts (not (eqb i j)) _ (one_back _ (each ∙ ap one_if (arc_from i j ne e)))).1)
  ]
    where
      one_mono : (x y : Bool) → (x ≡ true → y ≡ true) → one_if x ≤ one_if y
      one_mono true y f = rw (f refl) (omega arith)
      one_mono false true f = omega arith
      one_mono false false f = omega arith

      one_back : (x : Bool) → one_if x ≡ 1 → x ≡ true
      one_back true h = refl
      one_back false h = absurd (omega arith)

      arc_from : (i j : ℕ) → i ≢ j → pair i j ≡ true → arc i j ≡ true
      arc_from i j ne e = and_from (not (eqb i j)) _ (rw (ne_eqb i j ne) refl) (or_left _ _ e)

  -- where each pair has a mirror, there are as many arcs as pairs off the diagonal
  pub mirrored : ((i j : ℕ) → pair i j ≡ true → pair j i ≡ true) →
      sum_below n (λ j. count_below n (arc j)) + count_below n (λ j. pair j j) ≡ sum_below n (λ j. count_below n (λ i. pair i j))
  unfolding off arc
  mirrored turned =
      let same = sum_same n (λ j. count_below n (arc j)) (λ j. count_below n (off j))
      (λ j h. count_same n (arc j) (off j) (λ i l. ap (λ b. not (eqb j i) && b) (one_way (pair j i) (pair i j) (turned j i)))) in
      let parted = off_sum n (omega arith) in
      omega (arith, same, parted)
    where
      one_way : (x y : Bool) → (x ≡ true → y ≡ true) → (x || y) ≡ y
      one_way true y f = sym (f refl)
      one_way false y f = refl

module _ (n : ℕ) (ap' ai : List ℤ) (form : IsColumnForm (pos n) n ap' ai) (sorted : IsSorted n ap' ai) where
  -- the last pointer is the number of pairs
  pub pairs_counted : get_or (naturals ap') n 0 ≡ pair_count n ap' ai
  unfolding pair_count
  pairs_counted =
      let all = entries_counted n (naturals ap') (naturals ai) (sorted_form n ap' ai form sorted) n (omega arith) in
      let zero_first : get_or (naturals ap') 0 0 ≡ 0 = (let is = pointer_is n ap' ai form 0 (omega arith) in let first = form.first in
      omega (arith, ints)) in
      let same = sum_same n (λ j. count_below n (λ i. is_pair n ap' ai i j))
      (λ j. count_below n (λ i. is_entry n (naturals ap') (naturals ai) i j)) (λ j h. count_same n _ _ (λ i l. same_pair n ap' ai form i j))
      in
      omega (arith, all, zero_first, same)

-- each entry gives two arcs at most
pub arcs_twice : (n : ℕ) (ap' ai : List ℤ) → IsColumnForm (pos n) n ap' ai → IsSorted n ap' ai →
    degree_sum (graph_of n ap' ai) ≤ 2 * get_or (naturals ap') n 0
unfolding graph_of degree_sum degree arc pair_count
arcs_twice n ap' ai form sorted =
    let pairs = pairs_counted n ap' ai form sorted in let bound = arc_bound n (is_pair n ap' ai) in
    omega (arith, pairs, bound)

-- the diagonal is a part of the pattern
pub diagonal_part : (n : ℕ) (ap' ai : List ℤ) → diagonal_count n ap' ai ≤ pair_count n ap' ai
unfolding diagonal_count pair_count
diagonal_part n ap' ai = (let parted = off_sum n (is_pair n ap' ai) n (omega arith) in omega (arith, parted))

-- a pattern is symmetric exactly where the arcs are as many as the pairs off the diagonal
pub symmetric_when : (n : ℕ) (ap' ai : List ℤ) → degree_sum (graph_of n ap' ai) ≡ pair_count n ap' ai - diagonal_count n ap' ai →
    IsSymmetric n ap' ai
unfolding graph_of degree_sum degree pair_count diagonal_count arc
symmetric_when n ap' ai e =
    let part = diagonal_part n ap' ai in
    mirrors n (is_pair n ap' ai) (pair_small n ap' ai) (omega (arith, e, part))

pub symmetric_only : (n : ℕ) (ap' ai : List ℤ) → IsSymmetric n ap' ai →
    degree_sum (graph_of n ap' ai) ≡ pair_count n ap' ai - diagonal_count n ap' ai
unfolding graph_of degree_sum degree pair_count diagonal_count arc
symmetric_only n ap' ai turned = (let e = mirrored n (is_pair n ap' ai) turned in omega (arith, e))
