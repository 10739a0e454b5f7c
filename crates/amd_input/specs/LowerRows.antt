-- Columns that have no row above the diagonal, and how often rows stand in them.
use Rattle.std.specs.Prelude.{◌≡◌, ◌+◌, ◌-◌, ◌<◌, ◌≤◌, ℕ, true, cond, nat_eq, List, length, slice_index}
use Rattle.amd_model.specs.Below.{count_below}
use Rattle.amd_types.specs.Naturals.{is_entry}
use Rattle.amd_input.specs.Mirrors.{is_beside}
use Rattle.amd_input.specs.declared.lower.Own.{Own}

-- no row of the first k columns stands above the diagonal
abbrev pub AreLow : ℕ → List ℕ → List ℕ → ℕ → Type 0
AreLow n ap ai k = (i j : ℕ) → j < k → is_entry n ap ai i j ≡ true → j ≤ i

-- a row stands above the diagonal
pub record HasRowAbove (n : ℕ) (ap ai : List ℕ) : Type 0 where
  pub row : ℕ
  pub column : ℕ
  pub above : row < column
  pub stands : is_entry n ap ai row column ≡ true

-- what is counted of column k, which has no row above the diagonal
pub record CountOwn (n : ℕ) (ap ai : List ℕ) (k : ℕ) (own : Own) : Type 0 where
  pub others : own.others ≡ count_below n (is_beside n ap ai k)
  pub diagonal : own.diagonal ≡ is_entry n ap ai k k
  pub low : (i : ℕ) → is_entry n ap ai i k ≡ true → k ≤ i

-- how often row i stands before place q
unfoldable pub times : List ℕ → ℕ → ℕ → ℕ
times ai q i = count_below q (λ r. nat_eq (slice_index ai r) i)

-- the numbers before, and how often each row stands before place q
pub record CountRows (ai : List ℕ) (q : ℕ) (before numbers : List ℕ) : Type 0 where
  pub size : length numbers ≡ length before
  pub each : (i : ℕ) → i < length before → slice_index numbers i ≡ slice_index before i + times ai q i

-- the numbers before, without the diagonal entries of the first k columns
pub record DropDiagonals (n : ℕ) (ap ai : List ℕ) (k : ℕ) (before numbers : List ℕ) : Type 0 where
  pub size : length numbers ≡ length before
  pub done : (i : ℕ) → i < k → slice_index numbers i ≡ slice_index before i - cond (is_entry n ap ai i i) 1 0
  pub left : (i : ℕ) → k ≤ i → slice_index numbers i ≡ slice_index before i
