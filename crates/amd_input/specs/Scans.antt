-- What a scan over one column finds, and one over the rows of all.
use Rattle.std.specs.Prelude.{◌+◌, ◌-◌, ◌<◌, ◌≤◌, ◌≤ℤ◌, ◌<ℤ◌, ◌&&◌, ℕ, ℤ, Bool, List, nat_lt, int_le}
use Rattle.amd_model.specs.Below.{count_below}
use Rattle.amd_model.specs.Input.Columns.{at, IsRow}
use Rattle.amd_types.specs.declared.amd.Status.{Status}
use Rattle.amd_types.specs.declared.amd.Status.TheVariants.{OK, Invalid, OkButJumbled, OutOfMemory}

-- the places from a on, before b, hold rows of a matrix with m rows
abbrev pub AreRowNumbers : ℤ → List ℤ → ℕ → ℕ → Type 0
AreRowNumbers m ai a b = (k : ℕ) → a ≤ k → k < b → IsRow m (at ai k)

-- the numbers at these places are strictly rising
abbrev pub Rise : List ℤ → ℕ → ℕ → Type 0
Rise ai a b = (k : ℕ) → a ≤ k → k + 1 < b → at ai k <ℤ at ai (k + 1)

-- at some of them a number is not greater than the one before it
abbrev pub HaveDescent : List ℤ → ℕ → ℕ → Type 0
HaveDescent ai a b = (k : ℕ) × (a ≤ k) × (k + 1 < b) × (at ai (k + 1) ≤ℤ at ai k)

-- at some of them stands no row of a matrix with m rows
abbrev pub HaveNoRow : ℤ → List ℤ → ℕ → ℕ → Type 0
HaveNoRow m ai a b = (k : ℕ) × (a ≤ k) × (k < b) × (¬ (IsRow m (at ai k)))

-- what a status says of the rows at the places from a on, before b
abbrev pub IsColumnClass : ℤ → List ℤ → ℕ → ℕ → Status → Type 0
IsColumnClass m ai a b OK = AreRowNumbers m ai a b × Rise ai a b
IsColumnClass m ai a b Invalid = HaveNoRow m ai a b
IsColumnClass m ai a b OkButJumbled = AreRowNumbers m ai a b × HaveDescent ai a b
IsColumnClass m ai a b OutOfMemory = ⊥

-- the number at place k is not greater than the one before it, and there is one before it
abbrev pub is_descent : List ℤ → ℕ → Bool
is_descent ai k = nat_lt 0 k && int_le (at ai k) (at ai (k - 1))

-- how many places before b are such descents
abbrev pub descents_below : List ℤ → ℕ → ℕ
descents_below ai b = count_below b (is_descent ai)
