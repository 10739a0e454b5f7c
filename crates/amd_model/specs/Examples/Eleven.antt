-- A graph of eleven rows, of which one is held last and one has no edge. Elements hold rows of L that stay, of two rows
-- the elements or the neighbours differ, an element is absorbed that does not hold the pivot, and the heavier of two
-- children is listed behind the other.
use Rattle.std.specs.Prelude.{ℕ, ℤ, pos, Bool, None, Some, List, [], ◌∷◌, ◌==◌}
use Rattle.amd_model.specs.Graph.{Graph}
use Rattle.amd_model.specs.State.{State, Last, Live, Gone}
use Rattle.amd_model.specs.Input.Pattern.{graph_of, is_pair}
use Rattle.amd_model.specs.Quotient.{QuotientGraph, start_quotient, starting_list}
use Rattle.amd_model.specs.Examples.Table.{Table, state_of}

-- the column pointers
abbrev pub pointers : List ℤ
pointers = pos 0 ∷ pos 6 ∷ pos 8 ∷ pos 9 ∷ pos 13 ∷ pos 15 ∷ pos 17 ∷ pos 17 ∷ pos 19 ∷ pos 19 ∷ pos 21 ∷ pos 23 ∷ []

-- the row indices
abbrev pub rows : List ℤ
rows = pos 1 ∷ pos 2 ∷ pos 3 ∷ pos 4 ∷ pos 5 ∷ pos 7 ∷ pos 1 ∷ pos 4 ∷ pos 6 ∷ pos 0 ∷ pos 4 ∷ pos 5 ∷ pos 6 ∷ pos 3 ∷
    pos 9 ∷ pos 3 ∷ pos 9
    ∷ pos 4 ∷ pos 10 ∷ pos 6 ∷ pos 7 ∷ pos 2 ∷ pos 9 ∷ []

-- edges in the column of the lesser row, of the greater one, and of both; and a diagonal entry
abbrev pub eleven : Graph
eleven = graph_of 11 pointers rows

-- row 1 is held last
abbrev pub row_one : ℕ → Bool
row_one v = v == 1

-- the start, given by lists
abbrev pub start_table : Table
start_table = record {
  homes = Live 0 ∷ Last ∷ Live 2 ∷ Live 3 ∷ Live 4 ∷ Live 5 ∷ Live 6 ∷ Live 7 ∷ Gone 8 ∷ Live 9 ∷ Live 10 ∷ [];
  bounds = 6 ∷ 2 ∷ 3 ∷ 4 ∷ 5 ∷ 3 ∷ 3 ∷ 4 ∷ 0 ∷ 5 ∷ 3 ∷ [];
  borders = [];
  parents = [];
}

-- row 1 is held last, and row 8 has no edge
abbrev pub at_start : State
at_start = state_of start_table

-- the state after the first pivot, given by lists
abbrev pub one_table : Table
one_table = record {
  homes = Live 0 ∷ Last ∷ Live 2 ∷ Live 3 ∷ Live 4 ∷ Live 5 ∷ Live 6 ∷ Live 7 ∷ Gone 8 ∷ Live 9 ∷ Gone 10 ∷ [];
  bounds = 6 ∷ 2 ∷ 4 ∷ 4 ∷ 5 ∷ 3 ∷ 3 ∷ 4 ∷ 0 ∷ 5 ∷ 3 ∷ [];
  borders = [] ∷ [] ∷ [] ∷ [] ∷ [] ∷ [] ∷ [] ∷ [] ∷ [] ∷ [] ∷ (2 ∷ 7 ∷ 9 ∷ []) ∷ [];
  parents = [];
}

-- after pivot 10
abbrev pub after_one : State
after_one = state_of one_table

-- the state after the second pivot, given by lists
abbrev pub two_table : Table
two_table = record {
  homes = Live 0 ∷ Last ∷ Live 2 ∷ Live 3 ∷ Live 4 ∷ Live 5 ∷ Gone 6 ∷ Live 7 ∷ Gone 8 ∷ Live 9 ∷ Gone 10 ∷ [];
  bounds = 6 ∷ 2 ∷ 4 ∷ 5 ∷ 5 ∷ 3 ∷ 3 ∷ 4 ∷ 0 ∷ 5 ∷ 3 ∷ [];
  borders = [] ∷ [] ∷ [] ∷ [] ∷ [] ∷ [] ∷ (2 ∷ 3 ∷ 9 ∷ []) ∷ [] ∷ [] ∷ [] ∷ (2 ∷ 7 ∷ 9 ∷ []) ∷ [];
  parents = [];
}

-- after pivot 6: rows 2 and 9 are held by both elements and differ in their neighbours, row 3 by the new one alone
abbrev pub after_two : State
after_two = state_of two_table

-- the state after the third pivot, given by lists
abbrev pub three_table : Table
three_table = record {
  homes = Live 0 ∷ Last ∷ Live 2 ∷ Live 3 ∷ Live 4 ∷ Gone 5 ∷ Gone 6 ∷ Live 7 ∷ Gone 8 ∷ Live 9 ∷ Gone 10 ∷ [];
  bounds = 5 ∷ 2 ∷ 4 ∷ 4 ∷ 5 ∷ 3 ∷ 3 ∷ 4 ∷ 0 ∷ 5 ∷ 3 ∷ [];
  borders = [] ∷ [] ∷ [] ∷ [] ∷ [] ∷ (0 ∷ 3 ∷ 9 ∷ []) ∷ (2 ∷ 3 ∷ 9 ∷ []) ∷ [] ∷ [] ∷ [] ∷ (2 ∷ 7 ∷ 9 ∷ []) ∷ [];
  parents = [];
}

-- after pivot 5
abbrev pub after_three : State
after_three = state_of three_table

-- the state after the fourth pivot, given by lists
abbrev pub four_table : Table
four_table = record {
  homes = Live 4 ∷ Last ∷ Live 2 ∷ Gone 3 ∷ Live 4 ∷ Gone 5 ∷ Gone 6 ∷ Live 7 ∷ Gone 8 ∷ Live 2 ∷ Gone 10 ∷ [];
  bounds = 5 ∷ 2 ∷ 3 ∷ 4 ∷ 3 ∷ 3 ∷ 3 ∷ 4 ∷ 0 ∷ 5 ∷ 3 ∷ [];
  borders = [] ∷ [] ∷ [] ∷ (0 ∷ 2 ∷ 4 ∷ 9 ∷ []) ∷ [] ∷ (0 ∷ 3 ∷ 9 ∷ []) ∷ (2 ∷ 3 ∷ 9 ∷ []) ∷ [] ∷ [] ∷ [] ∷
      (2 ∷ 7 ∷ 9 ∷ []) ∷ [];
  parents = None ∷ None ∷ None ∷ None ∷ None ∷ Some 3 ∷ Some 3 ∷ [];
}

-- after pivot 3: it takes elements 5 and 6, and rows 0 and 4, and rows 9 and 2, become one class each
abbrev pub after_four : State
after_four = state_of four_table

-- the state after the fifth pivot, given by lists
abbrev pub five_table : Table
five_table = record {
  homes = Gone 4 ∷ Last ∷ Gone 4 ∷ Gone 3 ∷ Gone 4 ∷ Gone 5 ∷ Gone 6 ∷ Gone 4 ∷ Gone 8 ∷ Gone 4 ∷ Gone 10 ∷ [];
  bounds = 5 ∷ 2 ∷ 3 ∷ 4 ∷ 3 ∷ 3 ∷ 3 ∷ 4 ∷ 0 ∷ 5 ∷ 3 ∷ [];
  borders = [] ∷ [] ∷ [] ∷ (0 ∷ 2 ∷ 4 ∷ 9 ∷ []) ∷ [] ∷ (0 ∷ 3 ∷ 9 ∷ []) ∷ (2 ∷ 3 ∷ 9 ∷ []) ∷ [] ∷ [] ∷ [] ∷
      (2 ∷ 7 ∷ 9 ∷ []) ∷ [];
  parents = None ∷ None ∷ None ∷ Some 4 ∷ None ∷ Some 3 ∷ Some 3 ∷ None ∷ None ∷ None ∷ Some 4 ∷ [];
}

-- after pivot 4: it takes element 3, which holds it, element 10, whose border lies in its own, and the rows that are
-- left
abbrev pub after_five : State
after_five = state_of five_table

-- the start kept in lists, from the starting lists of the pattern
abbrev pub eleven_quotient : QuotientGraph
eleven_quotient = start_quotient eleven row_one (starting_list 11 (is_pair 11 pointers rows))

-- its rows listed in postorder
abbrev pub listing : List ℕ
listing = 10 ∷ 5 ∷ 6 ∷ 3 ∷ 0 ∷ 2 ∷ 7 ∷ 9 ∷ 4 ∷ 8 ∷ 1 ∷ []

-- the columns of the factor under that listing, by places
abbrev pub columns : List (List ℕ)
columns = (5 ∷ 6 ∷ 7 ∷ []) ∷ (3 ∷ 4 ∷ 7 ∷ []) ∷ (3 ∷ 5 ∷ 7 ∷ []) ∷ (4 ∷ 5 ∷ 7 ∷ 8 ∷ []) ∷ (5 ∷ 6 ∷ 7 ∷ 8 ∷ 10 ∷ [])
    ∷ (6 ∷ 7 ∷ 8 ∷ 10 ∷ []) ∷ (7 ∷ 8 ∷ 10 ∷ []) ∷ (8 ∷ 10 ∷ []) ∷ (10 ∷ []) ∷ [] ∷ [] ∷ []
