-- How many pairs off the diagonal have a mirror: twice the pairs off the diagonal without the arcs of the graph.
use Rattle.std.proofs.Common.{◌≡◌, ◌+◌, ◌*◌, ◌≤◌, ℕ, ℤ, Bool, true, false, List, inl, inr, refl, ap, sym, ◌∙◌, arith, eqb, ◌&&◌, ◌||◌, not}
use Rattle.std.proofs.lemmas.Bool.{and_parts, and_from, cases_eq, ne_eqb}
use Rattle.amd_model.specs.Below.{sum_below, count_below}
use Rattle.amd_model.specs.Graph.{degree, degree_sum}
use Rattle.amd_model.specs.Input.Pattern.{is_pair, graph_of, pair_count, diagonal_count}
use Rattle.amd_model.proofs.Counting.Below.{sum_mono, sum_plus, sum_same, count_mono}
use Rattle.amd_model.proofs.Counting.Pigeonhole.{sum_swap}
use Rattle.amd_model.proofs.Patterns.DegreeSums.{degrees_twice, pattern_graph}
use Rattle.amd_types.specs.declared.amd.Info.{Info}
use Rattle.amd_input.specs.PatternFigures.{HasPatternFigures}
use Rattle.amd_input.proofs.Symmetry.{one_if, off, off_count}
use Rattle.amd_report.specs.Shapes.{mirrored_count}

-- both ways, and one of them, are as many as the one and the other
both-and-one : (x p q : Bool) → one_if (x && (p && q)) + one_if (x && (q || p)) ≡ one_if (x && p) + one_if (x && q)
both-and-one true true true = refl
both-and-one true true false = refl
both-and-one true false true = refl
both-and-one true false false = refl
both-and-one false p q = refl

turned : (i j : ℕ) → not (eqb i j) ≡ not (eqb j i)
turned i j = elim (cases_eq i j) [
  | inl same ↦ rw same refl
  | inr ne ↦ rw (ne_eqb i j ne, ne_eqb j i (λ e. ne (sym e))) refl
]

module _ (n : ℕ) (pair : ℕ → ℕ → Bool) where
  abbrev both : ℕ → ℕ → Bool
  both j i = not (eqb j i) && (pair i j && pair j i)

  abbrev arc : ℕ → ℕ → Bool
  arc j i = not (eqb j i) && (pair j i || pair i j)

  abbrev other : ℕ → ℕ → Bool
  other j i = not (eqb j i) && pair j i

  outside : ℕ
  outside = sum_below n (λ j. count_below n (off n pair j))

  column-both : (j : ℕ) → count_below n (both j) + count_below n (arc j)
      ≡ count_below n (off n pair j) + count_below n (other j)
  unfolding count_below off
  column-both j =
      let left = sum_plus n (λ i. one_if (both j i)) (λ i. one_if (arc j i)) in
      let right = sum_plus n (λ i. one_if (off n pair j i)) (λ i. one_if (other j i)) in
      let each = sum_same n (λ i. one_if (both j i) + one_if (arc j i)) (λ i. one_if (off n pair j i) + one_if (other j i))
      (λ i l. both-and-one (not (eqb j i)) (pair i j) (pair j i)) in
      omega (arith, left, right, each)

  others : sum_below n (λ j. count_below n (other j)) ≡ outside
  unfolding count_below off outside
  others = sum_swap n n (λ j i. one_if (other j i)) ∙
      sum_same n (λ i. sum_below n (λ j. one_if (other j i))) (λ i. sum_below n (λ j. one_if (off n pair i j)))
      (λ i l. sum_same n (λ j. one_if (other j i)) (λ j. one_if (off n pair i j))
      (λ j k. ap (λ x. one_if (x && pair j i)) (turned j i)))

  twice : sum_below n (λ j. count_below n (both j)) + sum_below n (λ j. count_below n (arc j)) ≡ 2 * outside
  unfolding outside
  twice =
      let left = sum_plus n (λ j. count_below n (both j)) (λ j. count_below n (arc j)) in
      let right = sum_plus n (λ j. count_below n (off n pair j)) (λ j. count_below n (other j)) in
      let each = sum_same n (λ j. count_below n (both j) + count_below n (arc j))
      (λ j. count_below n (off n pair j) + count_below n (other j)) (λ j l. column-both j) in
      let rest = others in
      omega (arith, left, right, each, rest)

  parted : sum_below n (λ j. count_below n (λ i. pair i j)) ≡ outside + count_below n (λ j. pair j j)
  unfolding count_below outside
  parted =
      let plus = sum_plus n (λ j. count_below n (off n pair j)) (λ j. one_if (pair j j)) in
      let each = sum_same n (λ j. count_below n (λ i. pair i j)) (λ j. count_below n (off n pair j) + one_if (pair j j))
      (λ j l. off_count n pair j l) in
      omega (arith, plus, each)

  few : sum_below n (λ j. count_below n (both j)) ≤ outside
  unfolding outside off
  few = sum_mono n (λ j. count_below n (both j)) (λ j. count_below n (off n pair j))
      (λ j l. count_mono n (both j) (off n pair j)
      (λ i k e. let p = and_parts (not (eqb j i)) _ e in and_from (not (eqb j i)) _ p.0 (and_parts (pair i j) (pair j i) p.1).0))

-- the figures of a pattern tell how many there are
pub record MirrorsTold (n : ℕ) (ap' ai : List ℤ) (info : Info) : Type 0 where
  pub outside : ℕ
  pub entries : info.nz ≡ outside + info.nz_diag
  pub twice : mirrored_count n ap' ai + info.nz_a_plus_at ≡ 2 * outside
  pub few : mirrored_count n ap' ai ≤ outside

pub mirrors-told : (n : ℕ) (ap' ai : List ℤ) (info : Info) → HasPatternFigures n ap' ai info → MirrorsTold n ap' ai info
unfolding mirrored_count pair_count diagonal_count degree_sum degree graph_of
mirrors-told n ap' ai info h =
    let pair : ℕ → ℕ → Bool = is_pair n ap' ai in
    let arcs = degrees_twice (graph_of n ap' ai) (pattern_graph n ap' ai) in
    let all = parted n pair in
    let double = twice n pair in
    let entries = h.entries in
    let diagonal = h.diagonal in
    let edges = h.off_diagonal in
    record {
      outside = outside n pair;
      entries = omega (arith, all, entries, diagonal);
      twice = omega (arith, double, edges, arcs);
      few = few n pair;
    }
