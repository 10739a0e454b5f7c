-- The mirrors of the entries above the diagonal, and the degrees where each entry has one.
use Rattle.std.specs.Prelude.{◌≡◌, ◌+◌, ◌-◌, ◌<◌, ◌≤◌, ◌⊎◌, ◌&&◌, ◌==◌, ℕ, ℤ, Bool, true, false, not, List, length, slice_index}
use Rattle.amd_model.specs.Below.{count_below}
use Rattle.amd_types.specs.Naturals.{naturals, is_entry}

-- an entry whose mirror is no entry
pub record HasNoMirror (n : ℕ) (ap ai : List ℕ) : Type 0 where
  pub row : ℕ
  pub column : ℕ
  pub row_in : row < n
  pub column_in : column < n
  pub stands : is_entry n ap ai row column ≡ true
  pub lacks : is_entry n ap ai column row ≡ false

-- the mirror of each entry is an entry
abbrev pub HasMirrors : ℕ → List ℕ → List ℕ → Type 0
HasMirrors n ap ai = (i j : ℕ) → is_entry n ap ai i j ≡ true → is_entry n ap ai j i ≡ true

-- a row of the last column stands above the diagonal
pub record IsLastHigh (n : ℕ) (ap ai : List ℕ) : Type 0 where
  pub row : ℕ
  pub above : row + 1 < n
  pub stands : is_entry n ap ai row (n - 1) ≡ true

-- no row of the last column stands above the diagonal
abbrev pub IsLastLow : ℕ → List ℕ → List ℕ → Type 0
IsLastLow n ap ai = (i : ℕ) → i + 1 < n → is_entry n ap ai i (n - 1) ≡ false

-- the columns before k were read, and column k above row m: each upper entry that was read has its mirror before the
-- pointer t of the column of its row, and a row before such a pointer is not below the diagonal, or has its mirror,
-- which was read; the pointer is behind the diagonal, and not past the end of its column
pub record HaveMirrors (n : ℕ) (ap ai t : List ℕ) (k m : ℕ) : Type 0 where
  pub size : length t ≡ k
  pub start : (a : ℕ) → a < k → slice_index ap a ≤ slice_index t a
  pub stop : (a : ℕ) → a < k → slice_index t a ≤ slice_index ap (a + 1)
  pub low : (a r : ℕ) → a < k → slice_index t a ≤ r → r < slice_index ap (a + 1) → a < slice_index ai r
  pub passed : (a r : ℕ) → a < k → slice_index ap a ≤ r → r < slice_index t a →
      (slice_index ai r ≤ a) ⊎ ((slice_index ai r < k) ⊎ ((slice_index ai r ≡ k) × (a < m)))
  pub behind : (a r : ℕ) → a < k → slice_index ap a ≤ r → r < slice_index t a →
      (slice_index ai r ≤ a) ⊎ (is_entry n ap ai a (slice_index ai r) ≡ true)
  pub found : (a c : ℕ) → a < c → (c < k) ⊎ ((c ≡ k) × (a < m)) → is_entry n ap ai a c ≡ true →
      (r : ℕ) × (slice_index ap a ≤ r) × (r < slice_index t a) × (slice_index ai r ≡ c)

-- the same for pointers and rows as the caller has them
abbrev pub HaveMirrorsIn : ℕ → List ℤ → List ℤ → List ℕ → ℕ → ℕ → Type 0
HaveMirrorsIn n ap ai t k m = HaveMirrors n (naturals ap) (naturals ai) t k m

-- row i stands in column j, and is another row
unfoldable pub is_beside : ℕ → List ℕ → List ℕ → ℕ → ℕ → Bool
is_beside n ap ai j i = not (j == i) && is_entry n ap ai i j

-- the numbers of other rows in the first k columns
pub record CountOthers (n : ℕ) (ap ai : List ℕ) (k : ℕ) (numbers : List ℕ) : Type 0 where
  pub size : length numbers ≡ k
  pub each : (j : ℕ) → j < k → slice_index numbers j ≡ count_below n (is_beside n ap ai j)

-- the upper entries of column k end at the place p
pub record EndsUpper (ap ai : List ℕ) (k p : ℕ) : Type 0 where
  pub from : slice_index ap k ≤ p
  pub to : p ≤ slice_index ap (k + 1)
  pub before : (r : ℕ) → slice_index ap k ≤ r → r < p → slice_index ai r < k
  pub behind : p < slice_index ap (k + 1) → k ≤ slice_index ai p
