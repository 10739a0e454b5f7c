-- Column forms with the same pairs, or with transposed ones, have the same graph and the same figures.
use Rattle.std.proofs.Common.{ℕ, ℤ, Bool, true, false, List, ◌≡◌, ◌*◌, ◌<◌, ◌≤◌, ◌&&◌, ◌||◌, ◌⊎◌, not, cond, inl, inr, refl, sym, ◌∙◌, ap}
use Rattle.std.specs.Prelude.{◌==◌, nat_lt}
use Rattle.std.proofs.lemmas.Bool.{cases_lt, le-ltb}
use Rattle.std.proofs.Math.Bool.{or_comm}
use Rattle.amd_model.specs.Below.{sum_below, count_below}
use Rattle.amd_model.specs.Graph.{edge_count}
use Rattle.amd_model.specs.Input.Pattern.{holds_row, is_pair, graph_of, pair_count, diagonal_count, SamePattern, IsTranspose}
use Rattle.amd_model.proofs.Counting.Below.{sum_same, count_same}
use Rattle.amd_model.proofs.Counting.Pigeonhole.{sum_swap}
use Rattle.amd_types.specs.declared.amd.Info.{Info}
use Rattle.amd_input.specs.PatternFigures.{HasPatternFigures}

-- a pair names a row and a column below n
outside : (n : ℕ) (a_p a_i : List ℤ) (i j : ℕ) → (n ≤ i) ⊎ (n ≤ j) → is_pair n a_p a_i i j ≡ false
unfolding is_pair
outside n a_p a_i i j (inl far) = ap (λ b. b && nat_lt j n && holds_row a_p a_i j i) (le-ltb i n far)
outside n a_p a_i i j (inr far) = ap (λ b. nat_lt i n && b && holds_row a_p a_i j i) (le-ltb j n far) ∙
    none (nat_lt i n) (holds_row a_p a_i j i)
  where
    none : (a b : Bool) → (a && false && b) ≡ false
    none true b = refl
    none false b = refl

-- two tests that agree on rows and columns below n, and fail elsewhere, agree
everywhere : (n : ℕ) (p q : ℕ → ℕ → Bool) → ((i j : ℕ) → (n ≤ i) ⊎ (n ≤ j) → p i j ≡ false) →
    ((i j : ℕ) → (n ≤ i) ⊎ (n ≤ j) → q i j ≡ false) →
    ((i j : ℕ) → i < n → j < n → p i j ≡ q i j) → (i j : ℕ) → p i j ≡ q i j
everywhere n p q pf qf h i j = elim (cases_lt i n) [
  | inr far ↦ pf i j (inl far) ∙ sym (qf i j (inl far))
  | inl li ↦ elim (cases_lt j n) [
    | inr far ↦ pf i j (inr far) ∙ sym (qf i j (inr far))
    | inl lj ↦ h i j li lj
  ]
]

pub pairs_same : (n : ℕ) (a_p a_i b_p b_i : List ℤ) → SamePattern n a_p a_i b_p b_i → (i j : ℕ) →
    is_pair n a_p a_i i j ≡ is_pair n b_p b_i i j
pairs_same n a_p a_i b_p b_i same = everywhere n (is_pair n a_p a_i) (is_pair n b_p b_i) (outside n a_p a_i) (outside n b_p b_i) same

pub pairs_turned : (n : ℕ) (a_p a_i b_p b_i : List ℤ) → IsTranspose n a_p a_i b_p b_i → (i j : ℕ) →
    is_pair n b_p b_i i j ≡ is_pair n a_p a_i j i
pairs_turned n a_p a_i b_p b_i turned = everywhere n (is_pair n b_p b_i) (λ i j. is_pair n a_p a_i j i) (outside n b_p b_i)
    (λ i j far. outside n a_p a_i j i (flip far)) turned
  where
    flip : {P Q : Type 0} → P ⊎ Q → Q ⊎ P
    flip (inl x) = inr x
    flip (inr x) = inl x

graph_from : (n : ℕ) (a_p a_i b_p b_i : List ℤ) →
    ((i j : ℕ) → (is_pair n a_p a_i i j || is_pair n a_p a_i j i) ≡ (is_pair n b_p b_i i j || is_pair n b_p b_i j i)) →
    graph_of n a_p a_i ≡ graph_of n b_p b_i
unfolding graph_of
graph_from n a_p a_i b_p b_i h = λ k. record { size = n; edge = λ i j. not (i == j) && h i j k }

pub graph_same : (n : ℕ) (a_p a_i b_p b_i : List ℤ) → SamePattern n a_p a_i b_p b_i → graph_of n a_p a_i ≡ graph_of n b_p b_i
graph_same n a_p a_i b_p b_i same = let e = pairs_same n a_p a_i b_p b_i same in
    graph_from n a_p a_i b_p b_i (λ i j. ap (λ b. b || is_pair n a_p a_i j i) (e i j) ∙ ap (λ b. is_pair n b_p b_i i j || b) (e j i))

pub graph_turned : (n : ℕ) (a_p a_i b_p b_i : List ℤ) → IsTranspose n a_p a_i b_p b_i → graph_of n b_p b_i ≡ graph_of n a_p a_i
graph_turned n a_p a_i b_p b_i turned = let e = pairs_turned n a_p a_i b_p b_i turned in
    graph_from n b_p b_i a_p a_i (λ i j. ap (λ b. b || is_pair n b_p b_i j i) (e i j) ∙ ap (λ b. is_pair n a_p a_i j i || b) (e j i) ∙
    or_comm (is_pair n a_p a_i j i) (is_pair n a_p a_i i j))

-- the pairs of a transpose are as many
turned_pairs : (n : ℕ) (a_p a_i b_p b_i : List ℤ) → IsTranspose n a_p a_i b_p b_i → pair_count n b_p b_i ≡ pair_count n a_p a_i
unfolding pair_count count_below
turned_pairs n a_p a_i b_p b_i turned =
    sum_same n (λ j. sum_below n (λ i. cond (is_pair n b_p b_i i j) 1 0)) (λ j. sum_below n (λ i. cond (is_pair n a_p a_i j i) 1 0))
    (λ j lj. sum_same n (λ i. cond (is_pair n b_p b_i i j) 1 0) (λ i. cond (is_pair n a_p a_i j i) 1 0)
    (λ i li. ap (λ b. cond b 1 0) (turned i j li lj)))
    ∙ sum_swap n n (λ j i. cond (is_pair n a_p a_i j i) 1 0)

turned_diagonal : (n : ℕ) (a_p a_i b_p b_i : List ℤ) → IsTranspose n a_p a_i b_p b_i → diagonal_count n b_p b_i ≡ diagonal_count n a_p a_i
unfolding diagonal_count
turned_diagonal n a_p a_i b_p b_i turned = count_same n (λ i. is_pair n b_p b_i i i) (λ i. is_pair n a_p a_i i i) (λ i l. turned i i l l)

-- a transpose has the figures of the matrix
pub figures_turned : (n : ℕ) (a_p a_i b_p b_i : List ℤ) (info : Info) → IsTranspose n a_p a_i b_p b_i → HasPatternFigures n b_p b_i info →
    HasPatternFigures n a_p a_i info
figures_turned n a_p a_i b_p b_i info turned f = let e = pairs_turned n a_p a_i b_p b_i turned in record {
  size = f.size;
  entries = f.entries ∙ turned_pairs n a_p a_i b_p b_i turned;
  diagonal = f.diagonal ∙ turned_diagonal n a_p a_i b_p b_i turned;
  off_diagonal = f.off_diagonal ∙ ap (λ g. 2 * edge_count g) (graph_turned n a_p a_i b_p b_i turned);
  symmetric = (
    (λ t i j h. sym (e i j) ∙ f.symmetric.0 t j i (e j i ∙ h)),
    (λ s. f.symmetric.1 (λ i j h. e j i ∙ s j i (sym (e i j) ∙ h))),
  );
}
