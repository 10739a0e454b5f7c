-- Whether memory that was taken before has room for a matrix.
use Rattle.std.specs.Prelude.{ℕ, ℤ, pos, ◌≢◌, ◌≤◌, List, slice_index, unsigned_abs}
use Rattle.amd_types.specs.Naturals.{naturals}

-- a matrix with n rows and these pointers has at most so many rows and entries
abbrev pub FitsIn : ℤ → List ℤ → ℕ → ℕ → Type 0
FitsIn n ap rows entries = n ≢ pos 0 → (unsigned_abs n ≤ rows) × (slice_index (naturals ap) (unsigned_abs n) ≤ entries)
