-- Links: numbers that name a place in a list, or none.
use Rattle.std.specs.Prelude.{ℕ, ℤ, pos, negsuc, Option, None, Some}

-- the place that a number names; a negative one names none
abbrev pub named : ℤ → Option ℕ
named (pos p) = Some p
named (negsuc k) = None
