-- The cells of a picture of a tree: which blocks lie in each, and what it shows.
use Rattle.std.specs.Prelude.{◌≡◌, ◌≢◌, ◌+◌, ◌-◌, ◌*◌, ◌/◌, ◌<◌, ◌≤◌, ◌⊎◌, ℕ, List, length, max, min, slice_index}
use Rattle.amd_report.specs.declared.canvas.Canvas.{Canvas}

-- the rows of the front of supernode s: its columns, and the rows below its block, as far as 64 bits hold them
abbrev pub front_of : List ℕ → List ℕ → ℕ → ℕ
front_of first ptr s =
    min ((slice_index first (s + 1) - slice_index first s) + (slice_index ptr (s + 1) - slice_index ptr s)) 18446744073709551615

-- the cell of a column on a level; the first level is 1
abbrev pub cell_on : ℕ → ℕ → ℕ → ℕ → ℕ → ℕ
cell_on side across down level column = (level - 1) / max down 1 * side + column / max across 1

-- a block lies in a cell: from that of its first column on, up to that of its last one
pub record LiesIn (side across down left width level cell : ℕ) : Type 0 where
  pub some : 0 < width
  pub begins : cell_on side across down level left ≤ cell
  pub ends : cell ≤ cell_on side across down level (left + (width - 1))

-- block s lies in a cell of a canvas
abbrev pub LiesAt : {A : Type 0} → Canvas A → List ℕ → List ℕ → List ℕ → ℕ → ℕ → Type 0
LiesAt c left width level s cell =
    LiesIn c.side c.across c.down (slice_index left s) (slice_index width s) (slice_index level s) cell

-- each cell shows the largest front of the first k blocks that lie in it, and nothing where none does
pub record ShowsFronts {A : Type 0} (c : Canvas A) (first ptr left width level : List ℕ) (k : ℕ) : Type 0 where
  pub largest : (s cell : ℕ) → s < k → cell < length c.fronts.items → LiesAt c left width level s cell →
      front_of first ptr s ≤ slice_index c.fronts.items cell
  pub only : (cell : ℕ) → slice_index c.fronts.items cell ≢ 0 →
      (s : ℕ) × (s < k) × LiesAt c left width level s cell × (front_of first ptr s ≡ slice_index c.fronts.items cell)

-- the cells are the same, whatever they show
pub record SameCanvas {A : Type 0} (old new : Canvas A) : Type 0 where
  pub across : new.across ≡ old.across
  pub down : new.down ≡ old.down
  pub side : new.side ≡ old.side
  pub lines : new.lines ≡ old.lines
  pub cells : length new.fronts.items ≡ length old.fronts.items

-- what a block with a front of so many rows makes of a cell: the larger one of the two, where it lies there
abbrev pub Paints : {A : Type 0} → Canvas A → Canvas A → ℕ → ℕ → ℕ → ℕ → ℕ → Type 0
Paints old new left width level front cell =
    ((cell < length old.fronts.items) × LiesIn old.side old.across old.down left width level cell ×
    (slice_index new.fronts.items cell ≡ max (slice_index old.fronts.items cell) front))
    ⊎ ((¬ ((cell < length old.fronts.items) × LiesIn old.side old.across old.down left width level cell)) ×
    (slice_index new.fronts.items cell ≡ slice_index old.fronts.items cell))
