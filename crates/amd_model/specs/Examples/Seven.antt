-- A graph of seven rows: its second pivot merges three rows, of which one is held by an element, and its third pivot
-- takes the two rows that are left with it.
use Rattle.std.specs.Prelude.{ℕ, ℤ, pos, None, Some, List, [], ◌∷◌}
use Rattle.amd_model.specs.Graph.{Graph}
use Rattle.amd_model.specs.State.{State, Live, Gone}
use Rattle.amd_model.specs.Input.Pattern.{graph_of, is_pair}
use Rattle.amd_model.specs.Quotient.{QuotientGraph, start_quotient, starting_list}
use Rattle.amd_model.specs.Examples.Table.{Table, state_of, none_dense}

-- the column pointers
abbrev pub pointers : List ℤ
pointers = pos 0 ∷ pos 2 ∷ pos 6 ∷ pos 9 ∷ pos 11 ∷ pos 12 ∷ pos 12 ∷ pos 12 ∷ []

-- the row indices
abbrev pub rows : List ℤ
rows = pos 5 ∷ pos 6 ∷ pos 2 ∷ pos 3 ∷ pos 4 ∷ pos 5 ∷ pos 3 ∷ pos 4 ∷ pos 6 ∷ pos 4 ∷ pos 6 ∷ pos 5 ∷ []

-- twelve edges, each in the column of its lesser row
abbrev pub seven : Graph
seven = graph_of 7 pointers rows

-- the start, given by lists
abbrev pub start_table : Table
start_table = record {
  homes = Live 0 ∷ Live 1 ∷ Live 2 ∷ Live 3 ∷ Live 4 ∷ Live 5 ∷ Live 6 ∷ [];
  bounds = 2 ∷ 4 ∷ 4 ∷ 4 ∷ 4 ∷ 3 ∷ 3 ∷ [];
  borders = [];
  parents = [];
}

-- the degrees are 2, 4, 4, 4, 4, 3 and 3
abbrev pub at_start : State
at_start = state_of start_table

-- the state after the first pivot, given by lists
abbrev pub one_table : Table
one_table = record {
  homes = Gone 0 ∷ Live 1 ∷ Live 2 ∷ Live 3 ∷ Live 4 ∷ Live 5 ∷ Live 6 ∷ [];
  bounds = 2 ∷ 4 ∷ 4 ∷ 4 ∷ 4 ∷ 3 ∷ 3 ∷ [];
  borders = (5 ∷ 6 ∷ []) ∷ [];
  parents = [];
}

-- after pivot 0: rows 5 and 6 have different neighbours left, and stay apart
abbrev pub after_one : State
after_one = state_of one_table

-- the state after the second pivot, given by lists
abbrev pub two_table : Table
two_table = record {
  homes = Gone 0 ∷ Live 1 ∷ Live 2 ∷ Live 2 ∷ Live 4 ∷ Live 2 ∷ Gone 6 ∷ [];
  bounds = 2 ∷ 4 ∷ 2 ∷ 4 ∷ 4 ∷ 3 ∷ 3 ∷ [];
  borders = (5 ∷ 6 ∷ []) ∷ [] ∷ [] ∷ [] ∷ [] ∷ [] ∷ (2 ∷ 3 ∷ 5 ∷ []) ∷ [];
  parents = Some 6 ∷ [];
}

-- after pivot 6: it takes element 0, and rows 5, 3 and 2 are one class, of bound 2
abbrev pub after_two : State
after_two = state_of two_table

-- the state after the third pivot, given by lists
abbrev pub three_table : Table
three_table = record {
  homes = Gone 0 ∷ Gone 2 ∷ Gone 2 ∷ Gone 2 ∷ Gone 2 ∷ Gone 2 ∷ Gone 6 ∷ [];
  bounds = 2 ∷ 4 ∷ 2 ∷ 4 ∷ 4 ∷ 3 ∷ 3 ∷ [];
  borders = (5 ∷ 6 ∷ []) ∷ [] ∷ [] ∷ [] ∷ [] ∷ [] ∷ (2 ∷ 3 ∷ 5 ∷ []) ∷ [];
  parents = Some 6 ∷ None ∷ None ∷ None ∷ None ∷ None ∷ Some 2 ∷ [];
}

-- after pivot 2, which takes rows 1 and 4 too
abbrev pub after_three : State
after_three = state_of three_table

-- the start kept in lists, from the starting lists of the pattern
abbrev pub seven_quotient : QuotientGraph
seven_quotient = start_quotient seven none_dense (starting_list 7 (is_pair 7 pointers rows))

-- its rows listed in postorder
abbrev pub listing : List ℕ
listing = 0 ∷ 6 ∷ 1 ∷ 3 ∷ 4 ∷ 5 ∷ 2 ∷ []

-- the columns of the factor under that listing, by places
abbrev pub columns : List (List ℕ)
columns = (1 ∷ 5 ∷ []) ∷ (3 ∷ 5 ∷ 6 ∷ []) ∷ (3 ∷ 4 ∷ 5 ∷ 6 ∷ []) ∷ (4 ∷ 5 ∷ 6 ∷ []) ∷ (5 ∷ 6 ∷ []) ∷ (6 ∷ []) ∷ [] ∷ []
