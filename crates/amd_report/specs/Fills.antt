-- The fill of a factor in a square of cells.
use Rattle.std.specs.Prelude.{◌≡◌, ◌≢◌, ◌+◌, ◌<◌, ◌≤◌, ◌⊎◌, ℕ, List, Contains, length, slice_index}
use Rattle.amd_report.specs.declared.grids.Grid.{Grid}
use Rattle.amd_report.specs.Grids.{IsMarked, SameCells, cell_of}
use Rattle.amd_report.specs.Patterns.{column_rows}

-- row j stands below column k, in its supernode, which ends before end, or among the rows below its block
abbrev pub IsBelow : ℕ → ℕ → List ℕ → ℕ → Type 0
IsBelow k end below j = (k < j) × ((j < end) ⊎ Contains below j)

-- it is fill there: no later neighbour of the column
abbrev pub IsFillRow : ℕ → ℕ → List ℕ → List ℕ → ℕ → Type 0
IsFillRow k end below later j = IsBelow k end below j × (¬ (Contains later j))

-- the fill of column k alone
abbrev pub IsColumnFill : ℕ → ℕ → List ℕ → List ℕ → ℕ → ℕ → Type 0
IsColumnFill column end below later k j = (k ≡ column) × IsFillRow column end below later j

-- the fill of the columns from first on, before m, of a supernode that ends before end, with these rows below its block
abbrev pub IsPartFill : ℕ → ℕ → ℕ → List ℕ → List ℕ → List ℕ → ℕ → ℕ → Type 0
IsPartFill first m end below starts later k j =
    (first ≤ k) × (k < m) × IsFillRow k end below (column_rows starts later k) j

-- the fill of all columns of a supernode
abbrev pub IsBlockFill : ℕ → ℕ → List ℕ → List ℕ → List ℕ → ℕ → ℕ → Type 0
IsBlockFill first end below starts later k j = IsPartFill first end end below starts later k j

-- the fill of the first m supernodes
pub record IsFillOf (first ptr rows starts later : List ℕ) (m k j : ℕ) : Type 0 where
  pub s : ℕ
  pub inside : s < m
  pub fill : IsBlockFill (slice_index first s) (slice_index first (s + 1)) (column_rows ptr rows s) starts later k j

-- the cells of place j of column k and of its mirror
abbrev pub AreBoth : {A : Type 0} → Grid A → ℕ → ℕ → Type 0
AreBoth g k j = IsMarked g j k × IsMarked g k j

-- of the places of n rows and columns exactly the fill is marked, and its mirrors, beside what was marked
pub record AddsFill {A : Type 0} (old new : Grid A) (n : ℕ) (fill : ℕ → ℕ → Type 0) : Type 0 where
  pub same : SameCells old new
  pub kept : (cell : ℕ) → slice_index old.marks.items cell ≢ 0 → slice_index new.marks.items cell ≢ 0
  pub all : (k j : ℕ) → k < n → j < n → fill k j → AreBoth new k j
  pub only : (cell : ℕ) → slice_index new.marks.items cell ≢ 0 → (slice_index old.marks.items cell ≢ 0)
      ⊎ ((k j : ℕ) × fill k j × ((cell_of old (j, k) ≡ cell) ⊎ (cell_of old (k, j) ≡ cell)))

-- the marked cells are exactly those of the fill and of its mirrors
pub record ShowsFill {A : Type 0} (g : Grid A) (n : ℕ) (fill : ℕ → ℕ → Type 0) : Type 0 where
  pub marked : (k j : ℕ) → k < n → j < n → fill k j → AreBoth g k j
  pub only : (cell : ℕ) → slice_index g.marks.items cell ≢ 0 →
      (k j : ℕ) × fill k j × ((cell_of g (j, k) ≡ cell) ⊎ (cell_of g (k, j) ≡ cell))

-- the open rows are those below column k
pub record AreOpened (k end : ℕ) (below open_rows : List ℕ) : Type 0 where
  pub all : (j : ℕ) → IsBelow k end below j → Contains open_rows j
  pub only : (j : ℕ) → Contains open_rows j → (j < end) ⊎ Contains below j

-- each row below column k is open, or its cells are marked; and what is open is a row of the supernode
pub record IsReady {A : Type 0} (g : Grid A) (n k end : ℕ) (below open_rows : List ℕ) : Type 0 where
  pub covers : (j : ℕ) → j < n → IsBelow k end below j → Contains open_rows j ⊎ AreBoth g k j
  pub from : (j : ℕ) → Contains open_rows j → (j < end) ⊎ Contains below j

-- row j stands behind column k, and is not stamped by it
abbrev pub IsLoose : ℕ → List ℕ → ℕ → Type 0
IsLoose k edge j = (k < j) × (j < length edge) × (slice_index edge j ≢ k + 1)

-- what becomes of an entry of column k, in a row that is stamped where it is an edge
pub record TakesEntry {A : Type 0} (old new : Grid A) (k row : ℕ) (edge : List ℕ) : Type 0 where
  pub same : SameCells old new
  pub kept : (cell : ℕ) → slice_index old.marks.items cell ≢ 0 → slice_index new.marks.items cell ≢ 0
  pub only : (cell : ℕ) → slice_index new.marks.items cell ≢ 0 → (slice_index old.marks.items cell ≢ 0)
      ⊎ (IsLoose k edge row × ((cell_of old (row, k) ≡ cell) ⊎ (cell_of old (k, row) ≡ cell)))

-- and of those in all open rows, of which some stay open
pub record Sifts {A : Type 0} (old new : Grid A) (k : ℕ) (edge open_rows kept_rows : List ℕ) : Type 0 where
  pub same : SameCells old new
  pub kept : (cell : ℕ) → slice_index old.marks.items cell ≢ 0 → slice_index new.marks.items cell ≢ 0
  pub only : (cell : ℕ) → slice_index new.marks.items cell ≢ 0 → (slice_index old.marks.items cell ≢ 0)
      ⊎ ((j : ℕ) × Contains open_rows j × IsLoose k edge j
      × ((cell_of old (j, k) ≡ cell) ⊎ (cell_of old (k, j) ≡ cell)))
  pub each : (j : ℕ) → Contains open_rows j → k < j → j < length edge →
      (Contains kept_rows j × (slice_index edge j ≡ k + 1)) ⊎ AreBoth new k j
  pub from : (j : ℕ) → Contains kept_rows j → Contains open_rows j

-- supernodes follow one another, each with a column at least, and none ends behind column n
abbrev pub AreCuts : List ℕ → ℕ → Type 0
AreCuts first n = (s : ℕ) → s + 1 < length first →
    (slice_index first s < slice_index first (s + 1)) × (slice_index first (s + 1) ≤ n)
