-- The pointers of a column form.
use Rattle.std.proofs.Common.{◌≡◌, ◌+◌, ◌-◌, ◌^◌, ◌<◌, ◌≤◌, ℕ, ℤ, zero, suc, pos, negsuc, List, length, arith, add-zero}
use Rattle.std.specs.Prelude.{◌≤ℤ◌}
use Rattle.std.specs.Int.{FitsUnsignedBits}
use Rattle.std.proofs.lemmas.Int.{ints}
use Rattle.amd_model.specs.Input.Columns.{at, IsColumnForm}

-- pointers rise over any stretch
pub stretch : (m : ℤ) (n : ℕ) (ap ai : List ℤ) → IsColumnForm m n ap ai → (i d : ℕ) → i + d ≤ n → at ap i ≤ℤ at ap (i + d)
stretch m n ap ai f i zero h = rw add-zero (omega (arith, ints))
stretch m n ap ai f i (suc d) h =
    let before = stretch m n ap ai f i d (omega arith) in
    let step = f.ascending (i + d) (omega arith) in
    let e : i + suc d ≡ (i + d) + 1 = omega arith in
    rw e (omega (arith, ints))

-- each pointer of a column form is a place of the rows, or their end
pub pointer_in : (m : ℤ) (n : ℕ) (ap ai : List ℤ) → IsColumnForm m n ap ai → (j : ℕ) → j ≤ n →
    (pos 0 ≤ℤ at ap j) × (at ap j ≤ℤ at ap n) × (at ap j ≤ℤ pos (length ai))
pointer_in m n ap ai f j h =
    let low : at ap 0 ≤ℤ at ap (0 + j) = stretch m n ap ai f 0 j (omega arith) in
    let high : at ap j ≤ℤ at ap (j + (n - j)) = stretch m n ap ai f j (n - j) (omega arith) in
    let e : 0 + j ≡ j = omega arith in
    let e2 : j + (n - j) ≡ n = omega arith in
    let low2 = rw e at low in
    let high2 = rw e2 at high in
    let z = f.first in
    let w = f.within in
    (omega (arith, ints), high2, omega (arith, ints))

-- a number between 0 and a small count is a count of 64 bits
pub small_fits : (z : ℤ) (b : ℕ) → pos 0 ≤ℤ z → z ≤ℤ pos b → b < 2 ^ 64 → FitsUnsignedBits 64 z
small_fits (pos x) b low high h = omega (arith, ints)
small_fits (negsuc x) b low high h = absurd (omega (arith, ints))
