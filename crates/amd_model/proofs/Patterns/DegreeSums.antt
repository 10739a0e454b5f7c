-- The sum of the degrees is twice the number of edges, and the graph of a pattern is a graph.
use Rattle.std.proofs.Common.{ℕ, ℤ, zero, suc, Bool, true, false, ◌≡◌, ◌≤◌, ◌*◌, ◌&&◌, ◌||◌, not, cond, eqb, ltb, List, inl, inr, refl, sym}
use Rattle.std.proofs.Common.{ap, arith}
use Rattle.std.proofs.Math.Bool.{or_comm}
use Rattle.std.proofs.lemmas.Bool.{cases_eq, eq-eqb, ne_eqb, le-ltb}
use Rattle.amd_model.specs.Below.{sum_below, count_below}
use Rattle.amd_model.specs.Graph.{Graph, IsGraph, degree, degree_sum, edge_count}
use Rattle.amd_model.specs.Input.Pattern.{is_pair, holds_row, graph_of}
use Rattle.amd_model.proofs.Counting.Below.{sum_plus, count_same}

abbrev one_if : Bool → ℕ
one_if b = cond b 1 0

-- the arcs among the first m rows are twice the edges among them
module _ (edge : ℕ → ℕ → Bool) (symmetric : (v w : ℕ) → edge v w ≡ edge w v) (no_loop : (v : ℕ) → edge v v ≡ false) where
  arcs_twice : (m : ℕ) → sum_below m (λ v. count_below m (edge v)) ≡ 2 * sum_below m (λ w. count_below w (edge w))
  unfolding sum_below count_below
  arcs_twice zero = refl
  arcs_twice (suc m) =
      let before = arcs_twice m in
      let plus = sum_plus m (λ v. one_if (edge v m)) (λ v. count_below m (edge v)) in
      let turned : sum_below m (λ v. one_if (edge v m)) ≡ count_below m (edge m) =
      count_same m (λ v. edge v m) (edge m) (λ k h. symmetric k m) in
      let here = ap one_if (no_loop m) in
      omega (arith, before, plus, turned, here)

pub degrees_twice : (g : Graph) → IsGraph g → degree_sum g ≡ 2 * edge_count g
unfolding degree_sum edge_count degree
degrees_twice g laws = arcs_twice g.edge laws.symmetric laws.no_loop g.size

module _ (n : ℕ) (ap' ai : List ℤ) where
  edge_at : ℕ → ℕ → Bool
  edge_at i j = not (eqb i j) && (is_pair n ap' ai i j || is_pair n ap' ai j i)

  edge_turned : (i j : ℕ) → edge_at i j ≡ edge_at j i
  unfolding edge_at
  edge_turned i j = elim (cases_eq i j) [
    | inl same ↦ rw same refl
    | inr ne ↦ rw (ne_eqb i j ne, ne_eqb j i (λ e. ne (sym e))) (or_comm (is_pair n ap' ai i j) (is_pair n ap' ai j i))
  ]

  edge_inside : (i j : ℕ) → n ≤ i → edge_at i j ≡ false
  unfolding edge_at is_pair
  edge_inside i j h = rw (le-ltb i n h) (none (not (eqb i j)) (ltb j n))
    where
      none : (x y : Bool) → (x && (y && false && holds_row ap' ai i j)) ≡ false
      none true true = refl
      none true false = refl
      none false y = refl

  pub pattern_graph : IsGraph (graph_of n ap' ai)
  unfolding graph_of edge_at
  pattern_graph = record {
    symmetric = edge_turned;
    no_loop = λ v. rw (eq-eqb v v refl) refl;
    in_size = edge_inside;
  }
