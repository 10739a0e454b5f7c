-- What the cells of a panel show.
use Rattle.std.specs.Prelude.{◌≡◌, ◌<◌, ℕ, zero, suc, List, length, slice_index}

-- the kind of a cell: 1 where entries alone fall into it, 2 for fill alone, 3 for both, and 0 for nothing
abbrev pub kind_of : ℕ → ℕ → ℕ
kind_of zero zero = 0
kind_of zero (suc fill) = 2
kind_of (suc entries) zero = 1
kind_of (suc entries) (suc fill) = 3

-- each cell has one kind, by whether entries are marked in it and whether fill is
pub record AreKinds (entries fill kinds : List ℕ) : Type 0 where
  pub size : length kinds ≡ length entries
  pub each : (cell : ℕ) → cell < length entries →
      slice_index kinds cell ≡ kind_of (slice_index entries cell) (slice_index fill cell)
