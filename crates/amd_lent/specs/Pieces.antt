-- Sizes of pieces of memory.
use Rattle.std.specs.Prelude.{◌≡◌, ℕ, ◌%◌, max}
use Rattle.std.specs.Int.{next_multiple_of}

-- n bytes are whole units of 16
abbrev pub IsWhole : ℕ → Type 0
IsWhole n = n % 16 ≡ 0

-- the size of the piece for a request of n bytes
abbrev pub whole_size : ℕ → ℕ
whole_size n = next_multiple_of (max n 16) 16
