-- Column forms: column j holds the rows that stand at the places from a_p[j] on, before a_p[j + 1]. Source: AMD user
-- guide. The numbers are the integers that the caller's values stand for.
use Rattle.std.specs.Prelude.{◌≡◌, ◌+◌, ◌<◌, ◌≤ℤ◌, ◌<ℤ◌, ℕ, ℤ, pos, negsuc, List, length, slice_index_or}

-- the number at place k, 0 past the end
abbrev pub at : List ℤ → ℕ → ℤ
at xs k = slice_index_or xs k (pos 0)

-- a row of a matrix with m rows
abbrev pub IsRow : ℤ → ℤ → Type 0
IsRow m z = (pos 0 ≤ℤ z) × (z <ℤ m)

-- n columns over m rows
pub record IsColumnForm (m : ℤ) (n : ℕ) (ap ai : List ℤ) : Type 0 where
  -- there are n + 1 pointers at least, of which the first is 0, and up to the last one they never descend
  pub enough : n < length ap
  pub first : at ap 0 ≡ pos 0
  pub ascending : (j : ℕ) → j < n → at ap j ≤ℤ at ap (j + 1)
  -- the last one is at most the number of row indices, and those before it are rows
  pub within : at ap n ≤ℤ pos (length ai)
  pub rows : (k : ℕ) → pos k <ℤ at ap n → IsRow m (at ai k)

-- each column is strictly rising
abbrev pub IsSorted : ℕ → List ℤ → List ℤ → Type 0
IsSorted n ap ai = (j k : ℕ) → j < n → at ap j ≤ℤ pos k → pos (k + 1) <ℤ at ap (j + 1) → at ai k <ℤ at ai (k + 1)

-- in some column a row is not greater than the one before it
abbrev pub IsJumbled : ℕ → List ℤ → List ℤ → Type 0
IsJumbled n ap ai = (j : ℕ) × (k : ℕ) × (j < n) × (at ap j ≤ℤ pos k) × (pos (k + 1) <ℤ at ap (j + 1)) ×
    (at ai (k + 1) ≤ℤ at ai k)

-- a column form over m rows, for a number of columns that may be negative; never for a negative one
abbrev pub IsInput : ℤ → ℤ → List ℤ → List ℤ → Type 0
IsInput m (pos n) ap ai = IsColumnForm m n ap ai
IsInput m (negsuc n) ap ai = ⊥

-- each column strictly rises, for a number of columns that may be negative; never for a negative one
abbrev pub IsSortedInput : ℤ → List ℤ → List ℤ → Type 0
IsSortedInput (pos n) ap ai = IsSorted n ap ai
IsSortedInput (negsuc n) ap ai = ⊥

-- some column is jumbled, for a number of columns that may be negative; never for a negative one
abbrev pub IsJumbledInput : ℤ → List ℤ → List ℤ → Type 0
IsJumbledInput (pos n) ap ai = IsJumbled n ap ai
IsJumbledInput (negsuc n) ap ai = ⊥
