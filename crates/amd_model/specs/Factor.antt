-- The factor under an order of the rows, by the path theorem. Source: Rose, Tarjan and Lueker 1976; George and Liu
-- 1981.
use Rattle.std.specs.Prelude.{ℕ, Bool, ◌≡◌, ◌<◌, ◌↔◌, ◌+◌, List, Contains, length, slice_index, slice_index_or, sum_by}
use Rattle.std.specs.Prelude.{◌==◌, max, [], ◌∷◌}
use Rattle.amd_model.specs.Below.{any_below}
use Rattle.amd_model.specs.Graph.{Graph}
use Rattle.amd_model.specs.Reach.{Reach}
use Rattle.std.specs.List.Sorted.{IsStrictlyIncreasing}

-- the row stands before place k of p
unfoldable pub before : List ℕ → ℕ → ℕ → Bool
before p k u = any_below k (λ j. slice_index p j == u)

-- the column of place k: the later places whose rows are reached through the rows before k, rising
pub record IsColumn (g : Graph) (p : List ℕ) (k : ℕ) (column : List ℕ) : Type 0 where
  pub rising : IsStrictlyIncreasing column
  pub members : (j : ℕ) → Contains column j ↔ ((k < j) × (j < length p) ×
      Reach g (before p k) (slice_index p k) (slice_index p j))

-- the columns of all places
pub record IsFactor (g : Graph) (p : List ℕ) (columns : List (List ℕ)) : Type 0 where
  pub places : length columns ≡ length p
  pub each : (k : ℕ) (d : List ℕ) → k < length p → IsColumn g p k (slice_index_or columns k d)

-- what columns of these lengths need: the sum of their shares
abbrev pub needed : (ℕ → ℕ) → List (List ℕ) → ℕ
needed share columns = sum_by (λ column. share (length column)) columns

-- the length of the longest column with its diagonal entry, 0 where there is no column
unfoldable pub needed_front : List (List ℕ) → ℕ
needed_front [] = 0
needed_front (column ∷ rest) = max (length column + 1) (needed_front rest)
