-- The cycle 0 1 2 3: two pivots, of which the first merges the two rows beside it, and the second takes the last row
-- with it.
use Rattle.std.specs.Prelude.{ℕ, ℤ, pos, None, Some, List, [], ◌∷◌}
use Rattle.amd_model.specs.Graph.{Graph}
use Rattle.amd_model.specs.State.{State, Live, Gone}
use Rattle.amd_model.specs.Input.Pattern.{graph_of, is_pair}
use Rattle.amd_model.specs.Quotient.{QuotientGraph, start_quotient, starting_list}
use Rattle.amd_model.specs.Examples.Table.{Table, state_of, none_dense}

-- the column pointers
abbrev pub pointers : List ℤ
pointers = pos 0 ∷ pos 2 ∷ pos 3 ∷ pos 4 ∷ pos 4 ∷ []

-- the row indices
abbrev pub rows : List ℤ
rows = pos 1 ∷ pos 3 ∷ pos 2 ∷ pos 3 ∷ []

-- four edges, each in the column of its lesser row
abbrev pub cycle : Graph
cycle = graph_of 4 pointers rows

-- the start, given by lists
abbrev pub start_table : Table
start_table = record {
  homes = Live 0 ∷ Live 1 ∷ Live 2 ∷ Live 3 ∷ [];
  bounds = 2 ∷ 2 ∷ 2 ∷ 2 ∷ [];
  borders = [];
  parents = [];
}

-- each row has two neighbours
abbrev pub at_start : State
at_start = state_of start_table

-- the start with bounds that are all 0, which no run has: of the old bound and what is outside the lesser one counts
abbrev pub unbound : State
unbound = record at_start { bound = λ v. 0 }

-- the state after the first pivot, given by lists
abbrev pub one_table : Table
one_table = record {
  homes = Live 2 ∷ Live 1 ∷ Live 2 ∷ Gone 3 ∷ [];
  bounds = 2 ∷ 2 ∷ 1 ∷ 2 ∷ [];
  borders = [] ∷ [] ∷ [] ∷ (0 ∷ 2 ∷ []) ∷ [];
  parents = [];
}

-- after pivot 3: rows 0 and 2 are one class, of bound 1
abbrev pub after_one : State
after_one = state_of one_table

-- the state after the second pivot, given by lists
abbrev pub two_table : Table
two_table = record {
  homes = Gone 2 ∷ Gone 2 ∷ Gone 2 ∷ Gone 3 ∷ [];
  bounds = 2 ∷ 2 ∷ 1 ∷ 2 ∷ [];
  borders = [] ∷ [] ∷ [] ∷ (0 ∷ 2 ∷ []) ∷ [];
  parents = None ∷ None ∷ None ∷ Some 2 ∷ [];
}

-- after pivot 2, which takes row 1 too, and is the parent of 3
abbrev pub after_two : State
after_two = state_of two_table

-- the start kept in lists, from the starting lists of the pattern
abbrev pub cycle_quotient : QuotientGraph
cycle_quotient = start_quotient cycle none_dense (starting_list 4 (is_pair 4 pointers rows))

-- its rows listed in postorder
abbrev pub listing : List ℕ
listing = 3 ∷ 0 ∷ 1 ∷ 2 ∷ []

-- the columns of the factor under that listing, by places
abbrev pub columns : List (List ℕ)
columns = (1 ∷ 3 ∷ []) ∷ (2 ∷ 3 ∷ []) ∷ (3 ∷ []) ∷ [] ∷ []
