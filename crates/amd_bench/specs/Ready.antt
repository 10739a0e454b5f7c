-- What an elimination asks for: of a matrix, of the degrees of its rows, and of the words of a workspace.
use Rattle.std.specs.Prelude.{◌≡◌, ◌<◌, ◌≤◌, ◌+◌, ℕ, ℤ, List, pos, length}
use Rattle.amd_model.specs.Input.Columns.{IsColumnForm, IsSorted}
use Rattle.amd_model.specs.Input.Pattern.{graph_of}
use Rattle.amd_edges.specs.Visits.{AreCounts, start_of}

-- the columns of z rows are sorted, there is a row, the numbers are its degrees, and the words have room for the lists
pub record IsReady (z : ℤ) (a_p a_i : List ℤ) (words : ℕ) (numbers : List ℕ) : Type 0 where
  pub size : z ≡ pos (length numbers)
  pub some : 0 < length numbers
  pub form : IsColumnForm (pos (length numbers)) (length numbers) a_p a_i
  pub sorted : IsSorted (length numbers) a_p a_i
  pub degrees : AreCounts (graph_of (length numbers) a_p a_i) ((graph_of (length numbers) a_p a_i).edge) numbers
  pub room : start_of (graph_of (length numbers) a_p a_i) (length numbers) + length numbers ≤ words
