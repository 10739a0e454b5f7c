-- Places as numbers of an integer type, and columns that are planned and written in such numbers.
use Rattle.std.specs.Prelude.{ℕ, ℤ, pos, ◌≡◌, ◌≤◌, List, map, take, length, slice_index, slice_range}
use Rattle.std.specs.List.Sorted.{IsStrictlyIncreasing}
use Rattle.amd_types.specs.Naturals.{naturals}
use Rattle.amd_factor.specs.Gathering.{Completes, Filled}
use Rattle.amd_factor.specs.Orders.{Order}
use Rattle.amd_factor.specs.declared.column.Marked.{Marked}
use Rattle.amd_factor.specs.declared.column.ColumnLists.{ColumnLists}

-- no number is negative
abbrev pub AreNonNegative : List ℤ → Type 0
AreNonNegative zs = map pos (naturals zs) ≡ zs

-- column k takes over the rows from place from on, before to, and the fresh rows are those that it has beside
pub record Plans (o : Order) (k : ℕ) (rows : List ℕ) (from to : ℕ) (fresh : List ℕ) : Type 0 where
  pub range : from ≤ to
  pub within : to ≤ length rows
  pub rising : IsStrictlyIncreasing (slice_range rows from to)
  pub completes : Completes (record { order = o; place = k; inherited = slice_range rows from to }) fresh

-- the first numbers are the entries of the columns before place k, which left what `Filled` says
pub record FillsFront {N : Type 0} (value : N → ℤ) (o : Order) (k : ℕ) (l : ColumnLists) (rows : List N) (marked : Marked)
    (mark : List ℕ) : Type 0 where
  pub within : slice_index l.ptr.now k ≤ length rows
  pub numbers : AreNonNegative (map value (take (slice_index l.ptr.now k) rows))
  pub filled : Filled o k l.ptr.now (naturals (map value (take (slice_index l.ptr.now k) rows))) l.parent.now l.link.now
      marked.column marked.stamp mark

-- the lists are those that were lent
abbrev pub KeepsLoans : ColumnLists → ColumnLists → Type 0
KeepsLoans old new = (new.ptr.ghost_name ≡ old.ptr.ghost_name) × (new.parent.ghost_name ≡ old.parent.ghost_name)
    × (new.link.ghost_name ≡ old.link.ghost_name)
