-- Degrees that were counted are the numbers of neighbours by which an engine lays the lists of all rows.
use Rattle.std.proofs.Common.{ℕ, ℤ, List, pos, negsuc, ◌≡◌, ap, length, subst, sym}
use Rattle.std.specs.Prelude.{unsigned_abs}
use Rattle.amd_model.specs.Graph.{degree, degree_sum}
use Rattle.amd_model.specs.Input.Columns.{IsColumnForm, IsSorted, IsInput, IsSortedInput}
use Rattle.amd_model.specs.Input.Pattern.{graph_of}
use Rattle.amd_edges.specs.Visits.{AreCounts, start_of}
use Rattle.amd_input.specs.Degrees.{AreDegrees}
use Rattle.amd_input.proofs.PatternLemmas.{input_form, input_sorted}

-- the degrees of the rows are the numbers of their arcs
pub counts_of : (n : ℕ) (a_p a_i : List ℤ) (total : ℕ) (numbers : List ℕ) → AreDegrees n a_p a_i total numbers →
    AreCounts (graph_of n a_p a_i) ((graph_of n a_p a_i).edge) numbers
unfolding graph_of degree
counts_of n a_p a_i total numbers degrees = record { size = degrees.size; each = degrees.each }

-- and they add up to where the lists of all neighbours end
pub sums_are : (n : ℕ) (a_p a_i : List ℤ) (total : ℕ) (numbers : List ℕ) → AreDegrees n a_p a_i total numbers →
    total ≡ start_of (graph_of n a_p a_i) n
unfolding graph_of degree degree_sum start_of
sums_are n a_p a_i total numbers degrees = degrees.sum

-- there is a degree for each row
size_of : (z : ℤ) (ap' ai : List ℤ) (degrees : List ℕ) → IsInput z z ap' ai → length degrees ≡ unsigned_abs z → z ≡ pos (length degrees)
size_of (pos n) ap' ai degrees form size = ap pos (sym size)
size_of (negsuc n) ap' ai degrees form size = absurd form

-- so the input and its degrees are those of as many rows as there are degrees
module _ (z : ℤ) (ap' ai : List ℤ) (total : ℕ) (degrees : List ℕ) (form : IsInput z z ap' ai) (h : AreDegrees (unsigned_abs z) ap' ai total
    degrees) where
  pub degrees_size : z ≡ pos (length degrees)
  degrees_size = size_of z ap' ai degrees form h.size

  pub degrees_form : IsColumnForm (pos (length degrees)) (length degrees) ap' ai
  degrees_form = subst (λ m. IsColumnForm (pos m) m ap' ai) (sym h.size) (input_form z ap' ai form)

  pub degrees_sorted : IsSortedInput z ap' ai → IsSorted (length degrees) ap' ai
  degrees_sorted sorted = subst (λ m. IsSorted m ap' ai) (sym h.size) (input_sorted z ap' ai sorted)

  pub degrees_count : AreCounts (graph_of (length degrees) ap' ai) ((graph_of (length degrees) ap' ai).edge) degrees
  degrees_count = subst (λ m. AreCounts (graph_of m ap' ai) ((graph_of m ap' ai).edge) degrees) (sym h.size)
      (counts_of (unsigned_abs z) ap' ai total degrees h)

  pub degrees_sum : total ≡ start_of (graph_of (length degrees) ap' ai) (length degrees)
  degrees_sum = subst (λ m. total ≡ start_of (graph_of m ap' ai) m) (sym h.size) (sums_are (unsigned_abs z) ap' ai total degrees h)
