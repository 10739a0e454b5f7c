-- The signs of columns, and the edges that a pass over the entries of a column form met.
use Rattle.std.specs.Prelude.{◌≡◌, ◌<◌, ◌≤◌, ◌+◌, ◌*◌, ◌/◌, ◌%◌, ◌^◌, ◌&&◌, ◌||◌, ℕ, Bool, not, nat_eq, nat_lt, cond, List}
use Rattle.std.specs.Prelude.{slice_index, slice_set, bit_and, bit_or}
use Rattle.amd_types.specs.Naturals.{is_before, is_entry}
use Rattle.amd_report.specs.Passes.{IsForm, Met}

-- n columns over n rows, each strictly rising
pub record IsRisingForm (n : ℕ) (ap ai : List ℕ) : Type 0 where
  pub form : IsForm n ap ai
  pub order : (j : ℕ) → j < n → slice_index ap j ≤ slice_index ap (j + 1)
  pub rise : (j q r : ℕ) → j < n → slice_index ap j ≤ q → q < r → r < slice_index ap (j + 1) →
      slice_index ai q < slice_index ai r

-- the signs of a column: two bits of 64, which a product with the golden ratio mixes
unfoldable pub signs_of : ℕ → ℕ
signs_of c =
    let mixed : ℕ = c * 11400714819323198485 % 2 ^ 64 in
    bit_or (1 * 2 ^ (mixed / 2 ^ 58) % 2 ^ 64) (1 * 2 ^ (mixed / 2 ^ 52 % 64) % 2 ^ 64)

-- the signs of the rows, where row i has an entry in column c: it has the signs of the column if it is below the
-- diagonal
abbrev pub signs_after : List ℕ → ℕ → ℕ → List ℕ
signs_after signs i c =
    cond (nat_lt c i) (slice_set signs i (bit_or (slice_index signs i) (signs_of c))) signs

-- a row has the signs of each column that it was met in below the diagonal
abbrev pub HaveSigns : List ℕ → List ℕ → ℕ → ℕ → List ℕ → Type 0
HaveSigns ap ai j place signs = (i c : ℕ) → Met ap ai j place i c → c < i →
    bit_and (slice_index signs i) (signs_of c) ≡ signs_of c

-- row i was met in column c, by a pass that read the columns before j, and of column j the places before a place
unfoldable pub was_met : ℕ → List ℕ → List ℕ → ℕ → ℕ → ℕ → ℕ → Bool
was_met n ap ai j place i c = (nat_lt c j && is_entry n ap ai i c) || (nat_eq c j && is_before ap ai place i j)

-- two different rows of which one was met in the column of the other
abbrev pub edge_met : ℕ → List ℕ → List ℕ → ℕ → ℕ → ℕ → ℕ → Bool
edge_met n ap ai j place a b = not (nat_eq a b) && (was_met n ap ai j place a b || was_met n ap ai j place b a)
