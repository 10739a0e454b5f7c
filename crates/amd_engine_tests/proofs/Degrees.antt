-- What `aat` answers of a sorted matrix is what the engines ask for.
use Rattle.std.proofs.Common.{ℕ, ℤ, List, ◌≡◌, ◌+◌, ◌≤◌, length, arith}
use Rattle.std.specs.Prelude.{unsigned_abs}
use Rattle.amd_model.specs.Input.Columns.{IsInput}
use Rattle.amd_model.specs.Input.Pattern.{graph_of}
use Rattle.amd_edges.specs.Visits.{AreCounts, start_of}
use Rattle.amd_input.specs.Degrees.{AreDegrees}
use Rattle.amd.proofs.CountedDegrees.{degrees_sum}

-- the words of all lists, with a word more for each row, and others to spare
pub degrees_room : (z : ℤ) (ap' ai : List ℤ) (total : ℕ) (degrees : List ℕ) → IsInput z z ap' ai →
    AreDegrees (unsigned_abs z) ap' ai total degrees → (size more : ℕ) → size ≡ length degrees →
    start_of (graph_of (length degrees) ap' ai) (length degrees) + length degrees ≤ total + size + more
degrees_room z ap' ai total degrees form h size more same = let sum = degrees_sum z ap' ai total degrees form h in omega (arith, sum, same)

-- for a list and a size that are these
pub degrees_lent : (ap' ai : List ℤ) (degrees lent : List ℕ) (size : ℕ) → size ≡ length degrees → lent ≡ degrees →
    AreCounts (graph_of (length degrees) ap' ai) ((graph_of (length degrees) ap' ai).edge) degrees →
    AreCounts (graph_of size ap' ai) ((graph_of size ap' ai).edge) lent
degrees_lent ap' ai degrees lent size size_is lent_is counts = rw (size_is, lent_is) counts
