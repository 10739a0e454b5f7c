-- Whether a pattern is symmetric, by the numbers of neighbours of its rows.
use Rattle.std.proofs.Common.{◌≡◌, ◌+◌, ◌<◌, ◌≤◌, inl, inr, ℕ, ℤ, Bool, true, List, not, ◌&&◌}
use Rattle.std.proofs.Common.{arith, sym, subst}
use Rattle.std.proofs.lemmas.Bool.{and_parts, and_from, cases_Bool, cases_eq, eq-eqb, ne_eqb, not-true, not_from_false, or_cases, or_left}
use Rattle.std.proofs.lemmas.Bool.{or_right}
use Rattle.std.specs.Cmp.{both_ways}
use Rattle.amd_model.specs.Below.{count_below, list_below}
use Rattle.amd_model.specs.Input.Pattern.{graph_of, is_pair, IsSymmetric}
use Rattle.amd_model.specs.Quotient.{starting_list}
use Rattle.amd_model.proofs.Counting.Below.{clash, count_minus, count_mono, count_same}
use Rattle.amd_model.proofs.Counting.Points.{zero_counted}
use Rattle.amd_model.proofs.Patterns.StartingLists.{pair_small}
use Rattle.amd_edges.specs.Visits.{start_of}
use Rattle.amd_edges.proofs.Listing.{start_later}
use Rattle.amd_workspace.specs.Copying.{is_other}
use Rattle.amd_workspace.proofs.Layings.{sum_next}
use Rattle.amd_workspace.proofs.SymmetricLists.{symmetric_list}

module _ (n : ℕ) (ap' ai : List ℤ) where
  -- the neighbours of a row
  edge : ℕ → ℕ → Bool
  edge = (graph_of n ap' ai).edge

  other_edge : (i b : ℕ) → is_other n ap' ai i b ≡ true → edge i b ≡ true
  unfolding is_other edge graph_of
  other_edge i b e = let p = and_parts _ _ e in elim (cases_eq i b) [
    | inl same ↦ clash (eq-eqb b i (sym same)) (not-true _ p.0)
    | inr ne ↦ and_from _ _ (not_from_false _ (ne_eqb i b ne)) (or_right _ _ p.1)
  ]

  -- another row in a column is a neighbour
  others_few : (i : ℕ) → count_below n (is_other n ap' ai i) ≤ count_below n (edge i)
  others_few i = count_mono n (is_other n ap' ai i) (edge i) (λ k l. other_edge i k)

  -- each neighbour is one where the pattern is symmetric
  edge_other : IsSymmetric n ap' ai → (i b : ℕ) → edge i b ≡ true → is_other n ap' ai i b ≡ true
  unfolding is_other edge graph_of
  edge_other mirror i b e = let p = and_parts _ _ e in elim (cases_eq b i) [
    | inl same ↦ clash (eq-eqb i b (sym same)) (not-true _ p.0)
    | inr ne ↦ and_from _ _ (not_from_false _ (ne_eqb b i ne)) (elim (or_cases _ _ p.1) [ inl h ↦ mirror i b h | inr h ↦ h ])
  ]

  pub symmetric_count : IsSymmetric n ap' ai → (i : ℕ) → count_below n (is_other n ap' ai i) ≡ count_below n ((graph_of n ap' ai).edge i)
  unfolding edge
  symmetric_count mirror i = count_same n (is_other n ap' ai i) (edge i) (λ k l. both_ways _ _ (other_edge i k) (edge_other mirror i k))

  -- and it is symmetric where no row has more
  pub counts_symmetric : ((i : ℕ) → i < n → count_below n ((graph_of n ap' ai).edge i) ≡ count_below n (is_other n ap' ai i)) →
      IsSymmetric n ap' ai
  unfolding is_other edge graph_of
  counts_symmetric same i j h = elim (cases_eq i j) [
    | inl e ↦ subst (λ x. is_pair n ap' ai x i ≡ true) e (subst (λ x. is_pair n ap' ai i x ≡ true) (sym e) h)
    | inr ne ↦ (
        let small = pair_small n ap' ai i j h in
        let rest = count_minus n (edge i) (is_other n ap' ai i) (λ k l. other_edge i k) in
        let equal = same i small.0 in
        let none = zero_counted n (λ k. edge i k && not (is_other n ap' ai i k)) (omega (arith, rest, equal)) j small.1 in
        let joined : edge i j ≡ true = and_from _ _ (not_from_false _ (ne_eqb i j ne)) (or_left _ _ h) in
        elim (cases_Bool (is_other n ap' ai i j)) [
          | inl o ↦ (and_parts _ _ o).1
          | inr o ↦ clash (and_from _ _ joined (not_from_false _ o)) none
        ])
  ]

  pub others_room : (i free : ℕ) → i < n → free ≡ start_of (graph_of n ap' ai) i →
      free + count_below n (is_other n ap' ai i) ≤ start_of (graph_of n ap' ai) n
  unfolding edge graph_of
  others_room i free l is = let few = others_few i in let later = start_later (graph_of n ap' ai) i n l in omega (arith, is, few, later)

  -- where the next list starts
  pub next_start : (i : ℕ) → start_of (graph_of n ap' ai) (i + 1) ≡ start_of (graph_of n ap' ai) i + count_below n ((graph_of n ap'
      ai).edge i)
  unfolding start_of graph_of
  next_start i = let e = sum_next i (λ a. count_below n ((graph_of n ap' ai).edge a)) in omega (arith, e)

  pub symmetric_starting : IsSymmetric n ap' ai → (i : ℕ) → i < n →
      starting_list n (is_pair n ap' ai) i ≡ list_below n (is_other n ap' ai i)
  unfolding is_other
  symmetric_starting mirror i l = symmetric_list n (is_pair n ap' ai) mirror i l
