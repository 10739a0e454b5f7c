-- The bytes of a matrix file.
use Rattle.std.specs.Prelude.{◌≡◌, ℕ, ◌≤◌, ℤ, pos, Option, List, [], ◌∷◌, ◌++◌, length, take, drop}
use Rattle.std.specs.Int.{w32, w64, cast_signed, from_le_bytes}
use Rattle.std.specs.Io.KnownBytes.{Consumes}

-- the signed number that eight bytes are, the least byte first
abbrev pub wide_of : List ℕ → ℤ
wide_of bytes = cast_signed w64 (from_le_bytes w64 bytes)

-- the signed number that four bytes are, the least byte first
abbrev pub narrow_of : List ℕ → ℤ
narrow_of bytes = cast_signed w32 (from_le_bytes w32 bytes)

-- the bytes are those of the numbers, `size` of them for each
abbrev pub HoldsNumbers : ℕ → (List ℕ → ℤ) → List ℤ → List ℕ → Type 0
HoldsNumbers size number [] bytes = bytes ≡ []
HoldsNumbers size number (z ∷ zs) bytes = (size ≤ length bytes) × (z ≡ number (take size bytes))
    × HoldsNumbers size number zs (drop size bytes)

-- the bytes of the numbers were read
pub record ReadsNumbers (size : ℕ) (number : List ℕ → ℤ) (old new : Option (List ℕ)) (zs : List ℤ) : Type 0 where
  pub bytes : List ℕ
  pub consumed : Consumes old new bytes
  pub held : HoldsNumbers size number zs bytes

-- n numbers, and z behind them
abbrev pub EndsWith : List ℤ → ℕ → ℤ → Type 0
EndsWith zs n z = (front : List ℤ) × (zs ≡ front ++ z ∷ []) × (length front ≡ n)

-- the bytes are n, the number of entries, the n + 1 pointers, of which the last is that number, and the rows
pub record HoldsMatrix (n : ℤ) (ap ai : List ℤ) (bytes : List ℕ) : Type 0 where
  pub wide : List ℕ
  pub narrow : List ℕ
  pub parts : bytes ≡ wide ++ narrow
  pub columns : ℕ
  pub counted : n ≡ pos columns
  pub pointers : EndsWith ap columns (pos (length ai))
  pub wide_numbers : HoldsNumbers 8 wide_of (n ∷ (pos (length ai) ∷ ap)) wide
  pub narrow_numbers : HoldsNumbers 4 narrow_of ai narrow
