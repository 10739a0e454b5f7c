-- Which rows are held last: those that a caller marks, and the dense ones. Source: AMD user guide (dense rows).
use Rattle.std.specs.Prelude.{ℕ, Bool, false, Option, None, Some, List, ◌≡◌, ◌||◌, length, slice_index_or}
use Rattle.amd_model.specs.Graph.{Graph}
use Rattle.amd_model.specs.Input.Dense.{is_dense}

-- the row is marked; with no list, and past the end of one, nothing is
abbrev pub is_marked : Option (List Bool) → ℕ → Bool
is_marked None v = false
is_marked (Some marks) v = slice_index_or marks v false

-- a list, where there is one, has a mark for each of n rows
abbrev pub HasMarks : Option (List Bool) → ℕ → Type 0
HasMarks None n = Unit {0}
HasMarks (Some marks) n = length marks ≡ n

-- a row is held last if it is marked or dense; with nothing marked the rows held last are the dense ones
abbrev pub is_held_last : Option (List Bool) → Graph → ℕ → ℕ → Bool
is_held_last hold g threshold v = is_marked hold v || is_dense g threshold v
