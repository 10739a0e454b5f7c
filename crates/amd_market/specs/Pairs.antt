-- Pairs of a row and a column, as keys or as they are.
use Rattle.std.specs.Prelude.{◌≤◌, ◌^◌, ℕ, List}
use Rattle.amd_market.specs.Keys.{pairs_of_keys}
use Rattle.amd_market.specs.declared.matrices.Pairs.{Pairs}
use Rattle.amd_market.specs.declared.matrices.Pairs.TheVariants.{Keys, Listed}

-- the pairs
abbrev pub pairs_in : {Z : Type 0} → Pairs Z → List (ℕ × ℕ)
pairs_in (Keys v) = pairs_of_keys v.items
pairs_in (Listed v) = v.items

-- keys stand for pairs where 32 bits hold each of n rows
abbrev pub AreFor : {Z : Type 0} → ℕ → Pairs Z → Type 0
AreFor n (Keys v) = n ≤ 2 ^ 32
AreFor n (Listed v) = Unit {0}
