-- Forests: graphs with no cycle. Source: George and Liu 1981.
use Rattle.std.specs.Prelude.{ℕ, true, ◌≡◌, ◌≢◌, ◌≤◌, ◌<◌, ◌+◌, ◌-◌, List, length, slice_index}
use Rattle.amd_model.specs.Graph.{Graph}

-- a cycle: at least three different rows, each joined to the next, and the last to the first
pub record IsCycle (g : Graph) (rows : List ℕ) : Type 0 where
  pub three : 3 ≤ length rows
  pub differ : (j k : ℕ) → j < k → k < length rows → slice_index rows j ≢ slice_index rows k
  pub joined : (k : ℕ) → k + 1 < length rows → g.edge (slice_index rows k) (slice_index rows (k + 1)) ≡ true
  pub closed : g.edge (slice_index rows (length rows - 1)) (slice_index rows 0) ≡ true

-- no list of rows is a cycle
abbrev pub IsForest : Graph → Type 0
IsForest g = (rows : List ℕ) → IsCycle g rows → ⊥
