-- Squares of cells in which places of a matrix are marked, and the places that its entries have.
use Rattle.std.specs.Prelude.{◌≡◌, ◌≢◌, ◌+◌, ◌*◌, ◌/◌, ◌<◌, ℕ, zero, suc, Bool, true, false, List, [], ◌∷◌, ◌++◌, Contains}
use Rattle.std.specs.Int.{div_ceil}
use Rattle.std.specs.Prelude.{length, flat_map, max, slice_index}
use Rattle.amd_report.specs.declared.grids.Grid.{Grid}
use Rattle.amd_report.specs.Patterns.{column_rows}

-- the cell of a place
abbrev pub cell_of : {A : Type 0} → Grid A → ℕ × ℕ → ℕ
cell_of g p = p.0 / max g.step 1 * g.side + p.1 / max g.step 1

-- each place of n rows and columns has a cell
abbrev pub HasCells : {A : Type 0} → Grid A → ℕ → Type 0
HasCells g n = (row column : ℕ) → row < n → column < n → cell_of g (row, column) < length g.marks.items

-- how many rows fall into one line of cells where there are n rows, and how many lines there are then
abbrev pub rows_in_line : ℕ → ℕ
rows_in_line n = max (div_ceil n 400) 1

abbrev pub lines_for : ℕ → ℕ
lines_for n = div_ceil n (rows_in_line n)

-- the square has the cells for n rows and columns
pub record IsSquareFor {A : Type 0} (g : Grid A) (n : ℕ) : Type 0 where
  pub step : g.step ≡ rows_in_line n
  pub side : g.side ≡ lines_for n
  pub cells : length g.marks.items ≡ lines_for n * lines_for n

-- the cells are the same, whichever of them are marked
pub record SameCells {A : Type 0} (old new : Grid A) : Type 0 where
  pub step : new.step ≡ old.step
  pub side : new.side ≡ old.side
  pub cells : length new.marks.items ≡ length old.marks.items

-- one more place is marked
pub record AddsPlace {A : Type 0} (old new : Grid A) (p : ℕ × ℕ) : Type 0 where
  pub same : SameCells old new
  pub marked : cell_of old p < length old.marks.items → slice_index new.marks.items (cell_of old p) ≢ 0
  pub others : (cell : ℕ) → cell ≢ cell_of old p → slice_index new.marks.items cell ≡ slice_index old.marks.items cell
  pub kept : (cell : ℕ) → slice_index old.marks.items cell ≢ 0 → slice_index new.marks.items cell ≢ 0

-- a place and its mirror are marked
pub record AddsBoth {A : Type 0} (old new : Grid A) (row column : ℕ) : Type 0 where
  pub between : Grid A
  pub place : AddsPlace old between (row, column)
  pub mirror : AddsPlace between new (column, row)

-- the cell of a place is marked
abbrev pub IsMarked : {A : Type 0} → Grid A → ℕ → ℕ → Type 0
IsMarked g row column = slice_index g.marks.items (cell_of g (row, column)) ≢ 0

-- the marked cells are exactly those of some places
pub record ShowsPlaces {A : Type 0} (g : Grid A) (places : List (ℕ × ℕ)) : Type 0 where
  pub marked : (p : ℕ × ℕ) → Contains places p → cell_of g p < length g.marks.items →
      slice_index g.marks.items (cell_of g p) ≢ 0
  pub only : (cell : ℕ) → slice_index g.marks.items cell ≢ 0 →
      (p : ℕ × ℕ) × Contains places p × (cell_of g p ≡ cell)

-- the places that an entry is drawn at: its own, and its mirror too where the pattern is mirrored
abbrev pub drawn_places : Bool → ℕ → ℕ → List (ℕ × ℕ)
drawn_places false row column = (row, column) ∷ []
drawn_places true row column = (row, column) ∷ (column, row) ∷ []

-- those of the entries in some rows of the column at a place
abbrev pub column_places : Bool → List ℕ → ℕ → List ℕ → List (ℕ × ℕ)
column_places mirrored places column rows =
    flat_map (λ row. drawn_places mirrored (slice_index places row) column) rows

-- those of the entries of the first k columns, where each row has its place in an order
abbrev pub entry_places : Bool → List ℕ → List ℕ → List ℕ → ℕ → List (ℕ × ℕ)
entry_places mirrored places ap ai zero = []
entry_places mirrored places ap ai (suc k) =
    entry_places mirrored places ap ai k ++ column_places mirrored places (slice_index places k) (column_rows ap ai k)
