-- How many bytes of a block that a caller lends the memory of exact factors takes.
use Rattle.std.specs.Prelude.{◌+◌, ◌*◌, ◌/◌, ℕ}
use Rattle.amd_factor.specs.Within.{words}

-- n bytes in whole units of 16
abbrev pub whole_units : ℕ → ℕ
whole_units n = (n + 15) / 16 * 16

-- for so many rows and entries: 8 bytes for each number, and 16 for a link of each row
abbrev pub factor_bytes : ℕ → ℕ → ℕ
factor_bytes rows entries = whole_units (8 * words rows entries) + 16 * rows
