-- A matrix whose columns are sorted is ready for an engine once its degrees are counted, and the words of its workspace.
use Rattle.std.proofs.Common.{ℕ, ℤ, List, zero, suc, pos, ◌≡◌, ◌≢◌, ◌+◌, ◌/◌, ◌<◌, length, arith}
use Rattle.std.specs.Prelude.{unsigned_abs}
use Rattle.amd_model.specs.Input.Columns.{IsInput, IsSortedInput}
use Rattle.amd_input.specs.Degrees.{AreDegrees}
use Rattle.amd.proofs.CountedDegrees.{degrees_count, degrees_form, degrees_size, degrees_sorted, degrees_sum}
use Rattle.amd_bench.specs.Ready.{IsReady}

some_of : (z : ℤ) (m : ℕ) → z ≡ pos m → z ≢ pos 0 → 0 < m
some_of z zero e some = absurd (some e)
some_of z (suc m) e some = omega arith

-- the matrix is ready: the words have room for these lists and one word more for each row
pub ready : (z : ℤ) (a_p a_i : List ℤ) (total words : ℕ) (numbers : List ℕ) → IsInput z z a_p a_i → IsSortedInput z a_p a_i → z ≢ pos 0 →
    AreDegrees (unsigned_abs z) a_p a_i total numbers → words ≡ total + total / 5 + unsigned_abs z → IsReady z a_p a_i words numbers
ready z a_p a_i total words numbers form sorted some degrees is =
    let size = degrees_size z a_p a_i total numbers form degrees in record {
      size = size;
      some = some_of z (length numbers) size some;
      form = degrees_form z a_p a_i total numbers form degrees;
      sorted = degrees_sorted z a_p a_i total numbers form degrees sorted;
      degrees = degrees_count z a_p a_i total numbers form degrees;
      room = (let sum = degrees_sum z a_p a_i total numbers form degrees in let long = degrees.size in omega (arith, sum, long, is));
    }
