-- The degrees of the rows of a matrix, and what they are counted from and into.
use Rattle.std.specs.Prelude.{◌≡◌, ◌<◌, ◌≤◌, ℕ, ℤ, List, length, pos, slice_index}
use Rattle.amd_model.specs.Graph.{degree, degree_sum}
use Rattle.amd_model.specs.Input.Columns.{IsColumnForm, IsSorted}
use Rattle.amd_model.specs.Input.Pattern.{graph_of, diagonal_count}
use Rattle.amd_edges.specs.Visits.{AreCounts}

-- the degrees of the rows of a matrix with n rows, and their sum
pub record AreDegrees (n : ℕ) (ap ai : List ℤ) (total : ℕ) (degrees : List ℕ) : Type 0 where
  pub size : length degrees ≡ n
  pub sum : total ≡ degree_sum (graph_of n ap ai)
  pub each : (i : ℕ) → i < n → slice_index degrees i ≡ degree (graph_of n ap ai) i

-- a column form of n columns, each strictly rising
pub record IsRisingForm (n : ℕ) (ap ai : List ℤ) : Type 0 where
  pub form : IsColumnForm (pos n) n ap ai
  pub sorted : IsSorted n ap ai

-- an empty list with room for n numbers
pub record IsEmptyFor (n capacity : ℕ) (numbers : List ℕ) : Type 0 where
  pub empty : length numbers ≡ 0
  pub room : n ≤ capacity

-- a rising form of n columns, and an empty list for the degrees of its rows, in cells that hold up to `most`
pub record IsReadyToCount (n : ℕ) (ap ai : List ℤ) (most capacity : ℕ) (numbers : List ℕ) : Type 0 where
  pub input : IsRisingForm n ap ai
  pub fits : n ≤ most
  pub list : IsEmptyFor n capacity numbers

-- the degrees of the rows of a matrix with n rows, and the number of its diagonal entries
pub record CountDegrees (n : ℕ) (ap ai : List ℤ) (numbers : List ℕ) (count : ℕ) : Type 0 where
  pub degrees : AreCounts (graph_of n ap ai) ((graph_of n ap ai).edge) numbers
  pub diagonals : count ≡ diagonal_count n ap ai
