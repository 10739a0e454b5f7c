-- What fits in a part of a block: places whose values take so many bytes at most.
use Rattle.std.proofs.Common.{ℕ, ◌≡◌, ◌≤◌, ◌+◌, ◌*◌, arith}
use Rattle.std.proofs.Math.Nat.{add-mul, mul-le-mul_left, mul_assoc, mul_left_comm}

pub values_fit : (n s w part : ℕ) → s ≤ w → n * w ≤ part → n * s ≤ part
values_fit n s w part less room = let more : n * s ≤ n * w = mul-le-mul_left n less in omega (arith, more, room)

-- of twice as many bytes
pub pairs_fit : (n s w part : ℕ) → s ≤ 2 * w → n * w ≤ part → n * s ≤ 2 * part
pairs_fit n s w part less room =
    let more : n * s ≤ n * (2 * w) = mul-le-mul_left n less in
    let twice : n * (2 * w) ≡ 2 * (n * w) = mul_left_comm n 2 w in
    omega (arith, more, twice, room)

-- and one more value
pub more_fit : (n s w part : ℕ) → s ≤ w → n * w ≤ part → (n + 1) * s ≤ part + 4 * w
more_fit n s w part less room =
    let first : n * s ≤ part = values_fit n s w part less room in
    let sum : (n + 1) * s ≡ n * s + 1 * s = add-mul n 1 s in
    let one : 1 * s ≤ 1 * w = mul-le-mul_left 1 less in
    omega (arith, first, sum, one)

-- the words of the lists, in twice the part of the entries and that of the rows
pub words_fit : (n e w part entries_part : ℕ) → n * w ≤ part → e * w ≤ entries_part → (2 * e + n) * w ≤ 2 * entries_part + part
words_fit n e w part entries_part rows entries =
    let sum : (2 * e + n) * w ≡ 2 * e * w + n * w = add-mul (2 * e) n w in
    let twice : 2 * e * w ≡ 2 * (e * w) = mul_assoc 2 e w in
    omega (arith, sum, twice, rows, entries)
