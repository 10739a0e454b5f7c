-- What the degrees and the row form leave in a caller's arrays, and the same for the integers of C, whose values are themselves.
use Rattle.std.proofs.Common.{ℤ, List, ◌≡◌, ◌∙◌, ap, to_z, of_z, w32}
use Rattle.std.specs.Prelude.{Result}
use Rattle.std.proofs.lemmas.List.{map-id}
use Rattle.amd_factor.specs.declared.factor.Fault.{Fault}
use Rattle.amd_calls.specs.Columns.{number_of_end}
use Rattle.amd_c_calls.specs.Patterns.{Counted, counted, LeavesDegrees, DegreesInto, RowArrays, row_arrays, LeavesRowForm, RowFormInto}
use Rattle.amd_calls.specs.declared.records.Statistics.{Statistics}
use Rattle.amd_calls.proofs.Leaving.{matrix_of_values, memory_renamed}
use Rattle.amd_calls.proofs.ColumnsLeft.{end_is}
use Rattle.amd_engine.specs.InPlace.{values}

-- what a call leaves in the values is what it leaves in the integers
pub degrees_into : (m n : ℤ) (a_p a_i xs ys : List ℤ) (before after : Statistics) (outcome : Result (Unit {0}) Fault) (number : ℤ) →
    m ≡ n → LeavesDegrees m (values a_p) (values a_i) (counted (values xs) before) (counted (values ys) after) outcome →
    number ≡ number_of_end outcome → DegreesInto n a_p a_i (counted xs before) (counted ys after) (to_z w32 (of_z w32 number))
degrees_into m n a_p a_i xs ys before after outcome number same left is =
    let old : Counted = counted (values xs) before in
    let new : Counted = counted (values ys) after in
    let one = matrix_of_values (λ k bs cs. LeavesDegrees k bs cs old new outcome) m n a_p a_i same left in record {
      outcome = outcome;
      answer = end_is outcome number is;
      left = memory_renamed (λ x y. LeavesDegrees n a_p a_i x y outcome) (ap (λ x. counted x before) (map-id xs))
          (ap (λ x. counted x after) (map-id ys)) one;
    }

rows_of_values : (pointers indices : List ℤ) → row_arrays (values pointers) (values indices) ≡ row_arrays pointers indices
rows_of_values pointers indices =
    ap (λ x. row_arrays x (values indices)) (map-id pointers) ∙ ap (λ x. row_arrays pointers x) (map-id indices)

-- and so for the row form
pub row_form_into : (m n : ℤ) (a_p a_i xs ys us vs : List ℤ) (outcome : Result (Unit {0}) Fault) (number : ℤ) → m ≡ n →
    LeavesRowForm m (values a_p) (values a_i) (row_arrays (values xs) (values ys)) (row_arrays (values us) (values vs)) outcome →
    number ≡ number_of_end outcome → RowFormInto n a_p a_i (row_arrays xs ys) (row_arrays us vs) (to_z w32 (of_z w32 number))
row_form_into m n a_p a_i xs ys us vs outcome number same left is =
    let old : RowArrays = row_arrays (values xs) (values ys) in
    let new : RowArrays = row_arrays (values us) (values vs) in
    let one = matrix_of_values (λ k bs cs. LeavesRowForm k bs cs old new outcome) m n a_p a_i same left in record {
      outcome = outcome;
      answer = end_is outcome number is;
      left = memory_renamed (λ x y. LeavesRowForm n a_p a_i x y outcome) (rows_of_values xs ys) (rows_of_values us vs) one;
    }
