-- What is asked where a column is planned and closed: the columns before it stand, and their children are in lists.
use Rattle.std.specs.Prelude.{ℕ, ℤ, ◌≡◌, ◌<◌, ◌≤◌, ◌+◌, ◌-◌, List, [], Contains, Option, MatchOption, map, pos, take, length}
use Rattle.std.specs.Prelude.{slice_index, slice_range}
use Rattle.std.specs.List.Sorted.{IsStrictlyIncreasing}
use Rattle.amd_model.specs.Factor.{IsColumn}
use Rattle.amd_model.specs.Graph.{IsGraph}
use Rattle.amd_types.specs.Naturals.{naturals}
use Rattle.amd_factor.specs.Gathering.{Column, EntryOf, HoldBefore, Inherits, IsChild, LinkChildren, Marks, MarksTell, StandAt}
use Rattle.amd_factor.specs.Gathering.{TellFirst}
use Rattle.amd_factor.specs.Neighbours.{AreLater}
use Rattle.amd_factor.specs.Numbers.{AreNonNegative, FillsFront, Plans}
use Rattle.amd_factor.specs.Orders.{Order}
use Rattle.amd_factor.specs.Trees.{Entry}
use Rattle.amd_factor.specs.declared.column.ColumnLists.{ColumnLists}
use Rattle.amd_factor.specs.declared.column.Columns.{Columns}
use Rattle.amd_factor.specs.declared.column.Marked.{Marked}
use Rattle.amd_factor.specs.declared.column.Plan.{Plan}
use Rattle.amd_factor.specs.declared.column.Taken.{Taken}

-- the columns before place k stand in numbers that are not negative, and are linked as children
pub record AreColumns {N : Type 0} (value : N → ℤ) (o : Order) (k : ℕ) (at : Columns N) : Type 0 where
  pub numbers : AreNonNegative (map value at.rows.now)
  pub links : LinkChildren o k at.link.now
  pub stand : StandAt o k at.starts.now at.ends.now (naturals (map value at.rows.now))

-- so they are, and they stand one behind the other
pub record AreColumnsBehind {N : Type 0} (value : N → ℤ) (o : Order) (k : ℕ) (ptr : List ℕ) (rows : List N)
    (link : List (Option ℕ)) : Type 0 where
  pub numbers : AreNonNegative (map value rows)
  pub links : LinkChildren o k link
  pub columns : HoldBefore o k ptr (naturals (map value rows))

-- the children of a column are in lists, and where the entries of each begin and end is told
pub record CanCompare (c : Column) (k : ℕ) (link : List (Option ℕ)) (starts ends : List ℕ) : Type 0 where
  pub place : c.place ≡ k
  pub inside : c.place < length c.order.rows
  pub links : LinkChildren c.order c.place link
  pub rows : List ℕ
  pub stand : StandAt c.order c.place starts ends rows

-- so many rows are listed and have the mark, and there is room for all
pub record AreListed (c : Column) (stamp count : ℕ) (mark fresh : List ℕ) : Type 0 where
  pub room : length fresh ≡ length c.order.rows
  pub within : count ≤ length fresh
  pub marks : Marks c stamp (take count fresh) mark

-- rows that are entries of the column can be listed behind those that are
pub record CanList (c : Column) (rows : List ℕ) (stamp count : ℕ) (mark fresh : List ℕ) : Type 0 where
  pub entries : (j : ℕ) → Contains rows j → EntryOf c j
  pub listed : AreListed c stamp count mark fresh

-- a column takes over the rows from place from on, before to: those of the child `base` behind its first one
pub record TakesOver (c : Column) (rows : List ℕ) (base : Option ℕ) (from to : ℕ) : Type 0 where
  pub within : to ≤ length rows
  pub rising : IsStrictlyIncreasing (slice_range rows from to)
  pub inherits : Inherits (record { order = c.order; place = c.place; inherited = slice_range rows from to }) base

-- the rows of the children but `base` can be gathered: those of `base` have the mark
pub record CanGather {N : Type 0} (value : N → ℤ) (c : Column) (k base stamp : ℕ) (at : Columns N)
    (mark room : List ℕ) : Type 0 where
  pub laws : IsGraph c.order.graph
  pub place : c.place ≡ k
  pub inside : c.place < length c.order.rows
  pub columns : AreColumns value c.order c.place at
  pub base_marked : IsChild c base → (j : ℕ) → c.place < j → Entry c.order.graph c.order.rows base j →
      slice_index mark j ≡ stamp
  pub long : length room ≡ length c.order.rows
  pub marks : Marks c stamp [] mark

-- the rows that a column takes over from the child `base` can be marked
pub record CanMarkBase {N : Type 0} (value : N → ℤ) (c : Column) (k : ℕ) (base : Option ℕ) (rows : List N)
    (marked : Marked) (mark : List ℕ) : Type 0 where
  pub place : c.place ≡ k
  pub inside : c.place < length c.order.rows
  pub numbers : AreNonNegative (map value rows)
  pub taken : c.inherited ≡ naturals (map value rows)
  pub inherits : Inherits c base
  pub marks : MarksTell c.order c.place marked.column marked.stamp mark

-- the rows can be found that are new in a column, which takes over what `taken` says
pub record CanFindNew {N : Type 0} (value : N → ℤ) (c : Column) (k : ℕ) (taken : Taken) (neighbours : List ℕ)
    (marked : Marked) (at : Columns N) (mark room : List ℕ) : Type 0 where
  pub laws : IsGraph c.order.graph
  pub place : c.place ≡ k
  pub inside : c.place < length c.order.rows
  pub columns : AreColumns value c.order c.place at
  pub base : MatchOption taken.base ((m : ℕ) → ¬ (IsChild c m)) (λ child. IsChild c child)
  pub rows : c.inherited ≡ slice_range (naturals (map value at.rows.now)) taken.from taken.to
  pub range : taken.from ≤ taken.to
  pub within : taken.to ≤ length at.rows.now
  pub inherits : Inherits c taken.base
  pub later : AreLater c.order c.place neighbours
  pub marks : MarksTell c.order c.place marked.column marked.stamp mark
  pub long : length room ≡ length c.order.rows

-- column k can be planned by its later neighbours, where the columns before it stand
pub record CanPlan (o : Order) (k : ℕ) (neighbours : List ℕ) (marked : Marked) (mark room : List ℕ) : Type 0 where
  pub laws : IsGraph o.graph
  pub place : k < length o.rows
  pub later : AreLater o k neighbours
  pub marks : MarksTell o k marked.column marked.stamp mark
  pub long : length room ≡ length o.rows

-- column k stands behind those before it, up to place end, and can be closed
pub record CanClose {N : Type 0} (value : N → ℤ) (o : Order) (k end : ℕ) (ptr : List ℕ) (rows : List N)
    (parent link : List (Option ℕ)) : Type 0 where
  pub laws : IsGraph o.graph
  pub place : k < length o.rows
  pub numbers : AreNonNegative (map value rows)
  pub columns : HoldBefore o k ptr (naturals (map value rows))
  pub parents : TellFirst o k ptr (naturals (map value rows)) parent
  pub links : LinkChildren o k link
  pub range : slice_index ptr k ≤ end
  pub within : end ≤ length rows
  pub column : IsColumn o.graph o.rows k (slice_range (naturals (map value rows)) (slice_index ptr k) end)

-- column k is planned, and there is room for it in the rows up to their end, behind the columns before it
pub record CanFinish {N : Type 0} (value : N → ℤ) (o : Order) (k : ℕ) (plan : Plan) (fresh ptr : List ℕ) (rows : List N)
    (parent link : List (Option ℕ)) : Type 0 where
  pub laws : IsGraph o.graph
  pub place : k < length o.rows
  pub plans : Plans o k (naturals (map value (take (slice_index ptr k) rows))) plan.from plan.to fresh
  pub size : length rows ≡ slice_index ptr k + (plan.to - plan.from + length fresh)
  pub numbers : AreNonNegative (map value (take (slice_index ptr k) rows))
  pub columns : HoldBefore o k ptr (naturals (map value (take (slice_index ptr k) rows)))
  pub parents : TellFirst o k ptr (naturals (map value (take (slice_index ptr k) rows))) parent
  pub links : LinkChildren o k link

-- column k can be added behind those before it, by its later neighbours; each place is a number of the type
pub record CanAdd (fits : ℤ → Type 0) (o : Order) (k : ℕ) (neighbours room : List ℕ) : Type 0 where
  pub laws : IsGraph o.graph
  pub place : k < length o.rows
  pub fit : (j : ℕ) → j < length o.rows → fits (pos j)
  pub later : AreLater o k neighbours
  pub long : length room ≡ length o.rows

-- the later neighbours of a column, what the marks tell, and the lists for the work
pub record ColumnWork : Type 0 where
  pub neighbours : List ℕ
  pub marked : Marked
  pub mark : List ℕ
  pub fresh : List ℕ

-- the numbers end with the columns so far, within the room, for which there is the capacity
pub record IsFull (end long room capacity : ℕ) : Type 0 where
  pub full : end ≡ long
  pub within : long ≤ room
  pub capacity_is : room ≤ capacity

-- column k can be added behind those before it, which fill the numbers up to their end
pub record CanAddBehind {N : Type 0} (value : N → ℤ) (fits : ℤ → Type 0) (o : Order) (k : ℕ) (work : ColumnWork)
    (l : ColumnLists) (rows : List N) (room capacity : ℕ) : Type 0 where
  pub column : CanAdd fits o k work.neighbours work.fresh
  pub front : FillsFront value o k l rows work.marked work.mark
  pub full : IsFull (slice_index l.ptr.now k) (length rows) room capacity
