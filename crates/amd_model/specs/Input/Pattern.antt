-- The pattern of a column form, its graph, and their figures. Source: AMD user guide; George and Liu 1981.
use Rattle.std.specs.Prelude.{ℕ, ℤ, pos, Bool, true, ◌≡◌, ◌==◌, ◌&&◌, ◌||◌, ◌+◌, ◌<◌, not, nat_lt, int_le, int_lt, List}
use Rattle.std.specs.Prelude.{length}
use Rattle.std.specs.Ordering.{int_eq}
use Rattle.amd_model.specs.Below.{any_below, count_below, sum_below}
use Rattle.amd_model.specs.Graph.{Graph}
use Rattle.amd_model.specs.Input.Columns.{at}

-- column j holds row i: at some place from a_p[j] on, before a_p[j + 1], the row index is i
unfoldable pub holds_row : List ℤ → List ℤ → ℕ → ℕ → Bool
holds_row ap ai j i = any_below (length ai) (λ k. int_le (at ap j) (pos k) && int_lt (pos k) (at ap (j + 1)) &&
    int_eq (at ai k) (pos i))

-- the pair (i, j) of a row and a column is in the pattern
unfoldable pub is_pair : ℕ → List ℤ → List ℤ → ℕ → ℕ → Bool
is_pair n ap ai i j = nat_lt i n && nat_lt j n && holds_row ap ai j i

-- an edge joins two different rows of which one pair, or the other, is in the pattern
unfoldable pub graph_of : ℕ → List ℤ → List ℤ → Graph
graph_of n ap ai = record {
  size = n;
  edge = λ i j. not (i == j) && (is_pair n ap ai i j || is_pair n ap ai j i);
}

-- the number of pairs
unfoldable pub pair_count : ℕ → List ℤ → List ℤ → ℕ
pair_count n ap ai = sum_below n (λ j. count_below n (λ i. is_pair n ap ai i j))

-- the number of pairs (i, i)
unfoldable pub diagonal_count : ℕ → List ℤ → List ℤ → ℕ
diagonal_count n ap ai = count_below n (λ i. is_pair n ap ai i i)

-- the pattern is its own transpose
abbrev pub IsSymmetric : ℕ → List ℤ → List ℤ → Type 0
IsSymmetric n ap ai = (i j : ℕ) → is_pair n ap ai i j ≡ true → is_pair n ap ai j i ≡ true

-- two column forms have the same pairs
abbrev pub SamePattern : ℕ → List ℤ → List ℤ → List ℤ → List ℤ → Type 0
SamePattern n ap ai bp bi = (i j : ℕ) → i < n → j < n → is_pair n ap ai i j ≡ is_pair n bp bi i j

-- the pairs of the one, with row and column exchanged, are those of the other
abbrev pub IsTranspose : ℕ → List ℤ → List ℤ → List ℤ → List ℤ → Type 0
IsTranspose n ap ai bp bi = (i j : ℕ) → i < n → j < n → is_pair n bp bi i j ≡ is_pair n ap ai j i
