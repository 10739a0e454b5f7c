-- Arcs: an edge is two arcs, one in each direction. A set of arcs is a test of two rows, and a list of them has the
-- order in which they are met. What visitors make of them.
use Rattle.std.specs.Prelude.{◌≡◌, ◌≢◌, ◌+◌, ◌<◌, ◌≤◌, ◌&&◌, ◌||◌, ℕ, Bool, true, false, cond, nat_eq, List, [], ◌∷◌}
use Rattle.std.specs.Prelude.{flat_map, length}
use Rattle.std.specs.Prelude.{slice_index, slice_index_or, slice_range}
use Rattle.amd_model.specs.Below.{sum_below, count_below}
use Rattle.amd_model.specs.Graph.{Graph}

-- the arcs so far, and one more
unfoldable pub with_arc : (ℕ → ℕ → Bool) → ℕ → ℕ → ℕ → ℕ → Bool
with_arc seen i j a b = seen a b || (nat_eq a i && nat_eq b j)

-- the arcs of a list of edges: both arcs of each edge, one after the other
unfoldable pub arcs_of : List (ℕ × ℕ) → List (ℕ × ℕ)
arcs_of edges = flat_map (λ e. (e.0, e.1) ∷ (e.1, e.0) ∷ []) edges

-- where the arcs of row i in a list of arcs lead to, in its order
unfoldable pub ends_of : ℕ → List (ℕ × ℕ) → List ℕ
ends_of i arcs = flat_map (λ a. cond (nat_eq a.0 i) (a.1 ∷ []) []) arcs

-- the arc from i to j is one of the graph, and was not seen yet
pub record IsNew (g : Graph) (seen : ℕ → ℕ → Bool) (i j : ℕ) : Type 0 where
  pub i_row : i < g.size
  pub j_row : j < g.size
  pub edge : g.edge i j ≡ true
  pub fresh : seen i j ≡ false
  pub within : (a b : ℕ) → seen a b ≡ true → g.edge a b ≡ true

-- the arcs so far, and both of the edge of i and j
abbrev pub with_edge : (ℕ → ℕ → Bool) → ℕ → ℕ → ℕ → ℕ → Bool
with_edge seen i j = with_arc (with_arc seen i j) j i

-- both arcs of the edge of i and j are new, the second one when the first was taken
pub record IsNewEdge (g : Graph) (seen : ℕ → ℕ → Bool) (i j : ℕ) : Type 0 where
  pub there : IsNew g seen i j
  pub back : IsNew g (with_arc seen i j) j i

-- the numbers of arcs of each row
pub record AreCounts (g : Graph) (seen : ℕ → ℕ → Bool) (numbers : List ℕ) : Type 0 where
  pub size : length numbers ≡ g.size
  pub each : (i : ℕ) → i < g.size → slice_index numbers i ≡ count_below g.size (seen i)

-- where the list of row i starts, if the lists of all neighbours stand one after another
unfoldable pub start_of : Graph → ℕ → ℕ
start_of g i = sum_below i (λ a. count_below g.size (g.edge a))

-- the lists of the arcs of each row: each is filled from its start up to its `next`, in the order of the arcs, and
-- names a row at most once
pub record AreLists (g : Graph) (seen : ℕ → ℕ → Bool) (arcs : List (ℕ × ℕ)) (next rows : List ℕ) : Type 0 where
  pub size : length next ≡ g.size
  pub room : start_of g g.size ≤ length rows
  pub ends : (i : ℕ) → i < g.size → slice_index next i ≡ start_of g i + count_below g.size (seen i)
  pub named : (i q : ℕ) → i < g.size → start_of g i ≤ q → q < slice_index next i → seen i (slice_index rows q) ≡ true
  pub found : (i j : ℕ) → i < g.size → j < g.size → seen i j ≡ true → (q : ℕ) × (start_of g i ≤ q) ×
      (q < slice_index next i)
      × (slice_index rows q ≡ j)
  pub once : (i q r : ℕ) → i < g.size → start_of g i ≤ q → q < r → r < slice_index next i →
      slice_index rows q ≢ slice_index rows r
  pub order : (i : ℕ) → i < g.size → slice_range rows (start_of g i) (slice_index next i) ≡ ends_of i arcs

-- a list for each row: what the arcs of the row lead to, in their order, with room for all neighbours
pub record AreRows (g : Graph) (seen : ℕ → ℕ → Bool) (arcs : List (ℕ × ℕ)) (lists : List (List ℕ))
    (rooms : List ℕ) : Type 0 where
  pub size : length lists ≡ g.size
  pub counts : (i : ℕ) → i < g.size → length (slice_index_or lists i []) ≡ count_below g.size (seen i)
  pub room : (i : ℕ) → i < g.size → count_below g.size (g.edge i) ≤ slice_index rooms i
  pub order : (i : ℕ) → i < g.size → slice_index_or lists i [] ≡ ends_of i arcs
