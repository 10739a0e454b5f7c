-- A transpose has no more entries than its matrix, and what is wide enough for a matrix is so for one with fewer rows and words.
use Rattle.std.proofs.Common.{ℕ, ℤ, List, pos, map, length, ◌≡◌, ◌≤◌, ◌+◌, ◌*◌, ◌/◌, ◌<◌, ◌^◌, ◌∙◌, ap, arith, le_refl}
use Rattle.std.specs.Prelude.{slice_index, unsigned_abs}
use Rattle.std.proofs.Math.ListN.{get_or-map}
use Rattle.std.proofs.lemmas.List.{length-map}
use Rattle.amd_types.specs.Naturals.{naturals}
use Rattle.amd_input.specs.Transposes.{IsCleanForm}
use Rattle.amd_lists.specs.Sizes.{AreWideEnough}

-- the entries of a transpose in lists that are lent
pub lent_entries : {T : Type 0} (value : T → ℤ) (n entries : ℕ) (a_p a_i : List ℤ) (b_p b_i lent_p : List T) → lent_p ≡ b_p →
    IsCleanForm n a_p a_i (map value b_p) (map value b_i) → length b_i ≤ entries → slice_index (naturals (map value lent_p)) n ≤ entries
lent_entries value n entries a_p a_i b_p b_i lent_p same clean few =
    let is : slice_index (naturals (map value b_p)) n ≡ length b_i =
    get_or-map unsigned_abs (map value b_p) n (pos 0) ∙ ap unsigned_abs clean.full ∙ length-map b_i value in
    rw same (rw is few)

-- the words for fewer entries
fewer_words : (n entries few : ℕ) → few ≤ entries → 2 * few + 2 * few / 5 + n ≤ 2 * entries + 2 * entries / 5 + n
fewer_words n entries few less = omega (arith, less)

pub still_few : (n entries m few : ℕ) → 2 * entries + 2 * entries / 5 + n < 2 ^ 63 → m ≤ n → few ≤ entries →
    2 * few + 2 * few / 5 + m < 2 ^ 63
still_few n entries m few all rows less = omega (arith, all, rows, less)

pub less_wide : (word place cell n count m few : ℕ) → AreWideEnough word place cell n count → m ≤ n → few ≤ count →
    AreWideEnough word place cell m few
less_wide word place cell n count m few wide rows words = (omega arith, omega arith, omega arith, omega arith, omega arith)

-- for the words of fewer entries
pub still_wide : (word place cell n entries few : ℕ) → AreWideEnough word place cell n (2 * entries + 2 * entries / 5 + n) →
    few ≤ entries → AreWideEnough word place cell n (2 * few + 2 * few / 5 + n)
still_wide word place cell n entries few wide less =
    less_wide word place cell n (2 * entries + 2 * entries / 5 + n) n (2 * few + 2 * few / 5 + n) wide (le_refl n)
    (fewer_words n entries few less)

-- cells hold the rows and the entries of a matrix whose words they hold
pub cells_hold : (word place cell n entries : ℕ) → AreWideEnough word place cell n (2 * entries + 2 * entries / 5 + n) →
    (n ≤ cell) × (entries ≤ cell)
cells_hold word place cell n entries wide = (omega arith, omega arith)
