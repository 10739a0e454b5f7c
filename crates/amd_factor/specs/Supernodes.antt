-- The columns of a factor by supernodes. Source: Liu, Ng and Peyton 1993.
use Rattle.std.specs.Prelude.{ℕ, ℤ, pos, ◌≡◌, ◌≢◌, ◌<◌, ◌≤◌, ◌+◌, ◌-◌, ◌++◌, List, [], Option, None, Some, length}
use Rattle.std.specs.Prelude.{slice_index, slice_index_or, unsigned_abs}
use Rattle.std.specs.List.{range_with_len}
use Rattle.amd_model.specs.Factor.{IsFactor}
use Rattle.amd_model.specs.Graph.{Graph}
use Rattle.amd_model.specs.Input.Columns.{IsInput}
use Rattle.amd_model.specs.Input.Pattern.{graph_of}
-- the rows below the block of a supernode
pub use Rattle.amd_count_laws.specs.Parts.{part_of as rows_below}
use Rattle.amd_factor.specs.Columns.{first_of}
use Rattle.amd_factor.specs.Orders.{Permutes}

-- place k is joined to the next one: that is its parent, and has one entry less
pub record Joined (columns : List (List ℕ)) (k : ℕ) : Type 0 where
  pub parent : first_of (slice_index_or columns k []) ≡ Some (k + 1)
  pub count : length (slice_index_or columns k []) ≡ length (slice_index_or columns (k + 1) []) + 1

-- the longest runs of places below n of which each but the last is joined to the next one: run s has the places from
-- first[s] on, before first[s + 1]
pub record AreRuns (joined : ℕ → Type 0) (n : ℕ) (first : List ℕ) : Type 0 where
  pub some : 0 < length first
  pub begin : slice_index first 0 ≡ 0
  pub end : slice_index first (length first - 1) ≡ n
  pub rises : (s : ℕ) → s + 1 < length first → slice_index first s < slice_index first (s + 1)
  pub runs : (s k : ℕ) → s + 1 < length first → slice_index first s ≤ k → k + 1 < slice_index first (s + 1) → joined k
  pub longest : (s k : ℕ) → s + 1 < length first → k + 1 ≡ slice_index first (s + 1) → ¬ (joined k)

-- what the parent of a supernode tells of its rows: none, that there is none; and some, that the first of them is a
-- place of that supernode
abbrev pub TellsOver : List ℕ → List ℕ → Option ℕ → Type 0
TellsOver first below None = length below ≡ 0
TellsOver first below (Some q) = (0 < length below) × (q + 1 < length first) ×
    (slice_index first q ≤ slice_index below 0) ×
    (slice_index below 0 < slice_index first (q + 1))

-- the rows below the blocks stand in rows one after another, and nothing else; column k of supernode s has the places
-- behind k in s, and then the rows below its block
pub record HoldRowsBelow (columns : List (List ℕ)) (first ptr rows : List ℕ) (parent : List (Option ℕ)) : Type 0 where
  pub pointers : length ptr ≡ length first
  pub start : slice_index ptr 0 ≡ 0
  pub ascending : (s : ℕ) → s + 1 < length first → slice_index ptr s ≤ slice_index ptr (s + 1)
  pub total : slice_index ptr (length first - 1) ≡ length rows
  pub each : (s k : ℕ) → s + 1 < length first → slice_index first s ≤ k → k < slice_index first (s + 1) →
      slice_index_or columns k [] ≡ range_with_len (k + 1) (slice_index first (s + 1) - (k + 1)) ++ rows_below ptr
      rows s
  pub parents : length parent + 1 ≡ length first
  pub over : (s : ℕ) → s + 1 < length first → TellsOver first (rows_below ptr rows s) (slice_index_or parent s None)

-- the vectors hold the supernodes of the factor of the graph under the order p of its rows
pub record HoldSupernodes (g : Graph) (p first ptr rows : List ℕ) (parent : List (Option ℕ)) : Type 0 where
  pub columns : List (List ℕ)
  pub factor : IsFactor g p columns
  pub runs : AreRuns (Joined columns) (length columns) first
  pub holds : HoldRowsBelow columns first ptr rows parent

-- and so of a matrix with n rows under the order p, which lists each row once; where n is not 0 the matrix is a column
-- form
pub record IsSupernodesOf (n : ℤ) (ap ai p : List ℤ) (first ptr rows : List ℕ)
    (parent : List (Option ℕ)) : Type 0 where
  pub form : n ≢ pos 0 → IsInput n n ap ai
  pub order : List ℕ
  pub permutes : Permutes (unsigned_abs n) p order
  pub holds : HoldSupernodes (graph_of (unsigned_abs n) ap ai) order first ptr rows parent
