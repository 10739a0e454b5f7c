-- What the functions that make a factor and count its entries ask of the lists that they are lent.
use Rattle.std.specs.Prelude.{ℕ, ℤ, pos, ◌≡◌, ◌<◌, ◌≤◌, ◌+◌, ◌-◌, ◌*◌, ◌^◌, List, [], Option, length, slice_index, unsigned_abs}
use Rattle.amd_model.specs.Graph.{IsGraph}
use Rattle.amd_model.specs.Input.Pattern.{graph_of}
use Rattle.amd_types.specs.Naturals.{naturals}
use Rattle.amd_factor.specs.Ancestors.{Climbing}
use Rattle.amd_factor.specs.Columns.{FactorSizes}
use Rattle.amd_factor.specs.Meetings.{IsByRank, IsScene, Links, Met, Scene, Taken, sum_to}
use Rattle.amd_factor.specs.Neighbours.{AreEarlier, AreLater, HasEarlier, HasLater}
use Rattle.amd_factor.specs.Orders.{Order}
use Rattle.amd_factor.specs.Numbers.{AreNonNegative}
use Rattle.amd_factor.specs.Partitions.{AreNumbered, Climbs, IsCut, IsJoined, IsMarkedBy, IsPartitionOf, MarkedBefore}
use Rattle.amd_factor.specs.Partitions.{OrderedMatrix, Partition, WrittenTo, ordered_matrix}
use Rattle.amd_factor.specs.Sizes.{HoldSizes}
use Rattle.amd_factor.specs.Thinning.{AreThinned, HasThinned, Thins}
use Rattle.amd_factor.specs.Walks.{TellParents}
use Rattle.amd_factor.specs.Within.{IsPlaced, IsPosed}
use Rattle.amd_factor.specs.declared.neighbours.Neighbours.{Neighbours}
use Rattle.amd_factor.specs.declared.partition.LentCut.{LentCut}
use Rattle.amd_factor.specs.declared.ranks.RankedTree.{RankedTree}
use Rattle.amd_factor.specs.declared.rows_below.Partitioned.{Partitioned}

-- place j of the scene has rank t and these later neighbours, and the ranks are written
pub record IsNextPlace (s : Scene) (t j : ℕ) (later rank : List ℕ) : Type 0 where
  pub scene : IsScene s
  pub ranks : rank ≡ s.rank
  pub place : j < length s.up
  pub here : slice_index s.rank j ≡ t
  pub later_are : AreLater s.order j later

-- when the arcs from the places of ranks below t were taken, so many more can be taken
pub record CanTakeArcs (s : Scene) (t count : ℕ) (link last plus minus : List ℕ) : Type 0 where
  pub links : Links s t link
  pub met : Met s (Taken s t) last plus minus
  pub room : sum_to plus (length s.up + 1) + count < 2 ^ 64

-- the tree is that of the scene
pub record IsTreeOf (s : Scene) (tree : RankedTree) : Type 0 where
  pub scene : IsScene s
  pub ups : tree.up.now ≡ s.up
  pub sizes : tree.size.now ≡ s.size
  pub ranks : tree.rank.now ≡ s.rank

-- the places stand by their ranks, and there is room for links, for the last arc to each place, and for sums by rank
pub record CanMeetArcs (s : Scene) (order link last plus minus : List ℕ) : Type 0 where
  pub by_rank : IsByRank s order
  pub link_room : length link ≡ length s.up + 1
  pub last_room : length last ≡ length s.up
  pub plus_room : length plus ≡ length s.up + 1
  pub minus_room : length minus ≡ length s.up + 1

-- all arcs were taken, their sum is a number of 64 bits, and there is room for a count of each column
pub record CanTellCounts (s : Scene) (plus minus counts : List ℕ) : Type 0 where
  pub met : (last : List ℕ) × Met s (Taken s (length s.up)) last plus minus
  pub room : sum_to plus (length s.up + 1) < 2 ^ 64
  pub counts_room : length counts ≡ length s.up

-- there is room for all that a sweep writes
pub record HasSweepRoom (s : Scene) (order link last plus minus counts : List ℕ) : Type 0 where
  pub order_room : length order ≡ length s.up
  pub link_room : length link ≡ length s.up + 1
  pub last_room : length last ≡ length s.up
  pub plus_room : length plus ≡ length s.up + 1
  pub minus_room : length minus ≡ length s.up + 1
  pub counts_room : length counts ≡ length s.up

-- the arcs of the order t are enough to count those of the order o of a graph, whose parents these are
pub record ThinsTree (o t : Order) (parent : List (Option ℕ)) : Type 0 where
  pub laws : IsGraph o.graph
  pub thins : Thins o t
  pub parents : TellParents o (length o.rows) parent

-- the parents can be found from the earlier neighbours of each place of the order of a graph
pub record CanMakeTree (o : Order) (starts earlier : List ℕ) (parent : List (Option ℕ)) (ancestor : List ℕ) : Type 0 where
  pub laws : IsGraph o.graph
  pub earlier_are : HasEarlier o starts earlier
  pub parents : length parent ≡ length o.rows
  pub ancestors : length ancestor ≡ length o.rows

-- row i of the order of a graph can become a parent, when the rows before it have climbed
pub record CanLinkRow (o : Order) (i : ℕ) (earlier : List ℕ) (parent : List (Option ℕ)) (ancestor : List ℕ) : Type 0 where
  pub laws : IsGraph o.graph
  pub place : i < length o.rows
  pub earlier_are : AreEarlier o i earlier
  pub climbing : Climbing o i i parent ancestor

-- earlier neighbours can be left out that are the parents of others
pub record CanThin (o : Order) (starts earlier : List ℕ) (parent : List (Option ℕ)) (mark : List ℕ) : Type 0 where
  pub laws : IsGraph o.graph
  pub earlier_are : HasEarlier o starts earlier
  pub parents : TellParents o (length o.rows) parent
  pub marks : length mark ≡ length o.rows

-- there is room for a count of each column, and for the work of a count by the tree
pub record HasTreeRoom (o : Order) (counts work : List ℕ) : Type 0 where
  pub counts_room : length counts ≡ length o.rows
  pub work_room : length work ≡ 8 * length o.rows + 5

-- the number is the row j of the order of a graph, and the supernodes have these parents
pub record IsRowOf (b : Partition) (j : ℕ) (number : ℤ) (parent : List (Option ℕ)) : Type 0 where
  pub laws : IsGraph b.order.graph
  pub place : j < length b.owner
  pub is : number ≡ pos j
  pub parents : parent ≡ b.parent

-- row j, which has this number and climbs by these parents, has come to supernode s
pub record CanClimb (b : Partition) (j : ℕ) (number : ℤ) (s : ℕ) (parent : List (Option ℕ)) (next mark : List ℕ)
    (rows : List ℤ) : Type 0 where
  pub row : IsRowOf b j number parent
  pub climbs : Climbs b j s next mark (naturals rows)
  pub told : AreNonNegative rows

-- so it has, and it is not written there yet
pub record CanPutRow (b : Partition) (j : ℕ) (number : ℤ) (s : ℕ) (parent : List (Option ℕ)) (next mark : List ℕ)
    (rows : List ℤ) : Type 0 where
  pub row : IsRowOf b j number parent
  pub climbs : Climbs b j s next mark (naturals rows)
  pub new : ¬ (IsMarkedBy mark j s)
  pub told : AreNonNegative rows

-- the rows before j are written, and no mark is that of j; row j has this number and these earlier neighbours
pub record CanAddRow (b : Partition) (j : ℕ) (number : ℤ) (earlier : List ℕ) (lent : LentCut) (next mark : List ℕ)
    (rows : List ℤ) : Type 0 where
  pub row : IsRowOf b j number lent.parent.now
  pub thinned : AreThinned b.order j earlier
  pub owners : lent.owner.now ≡ b.owner
  pub written : WrittenTo b j next (naturals rows)
  pub marks : MarkedBefore b j mark
  pub told : AreNonNegative rows

-- the places are numbered by their supernodes, of which `over` has a place for each, and two lists one more
pub record CanCut (o : Order) (sizes : List ℕ) (parent : List (Option ℕ)) (owner first ptr : List ℕ)
    (over : List (Option ℕ)) : Type 0 where
  pub counts : HoldSizes o.graph o.rows sizes parent
  pub numbered : AreNumbered (IsJoined sizes parent) (length sizes) owner (length over)
  pub firsts : length first ≡ length over + 1
  pub pointers : length ptr ≡ length over + 1

-- the lists that are lent are those of the supernodes of the order of a graph
pub record IsCutOf (b : Partition) (lent : LentCut) : Type 0 where
  pub laws : IsGraph b.order.graph
  pub cut : IsCut b
  pub firsts : lent.first.now ≡ b.first
  pub owners : lent.owner.now ≡ b.owner
  pub pointers : lent.ptr.now ≡ b.ptr
  pub parents : lent.parent.now ≡ b.parent

-- there is a place for each supernode in two lists, and room for all rows below the blocks, each of which fits; the earlier
-- neighbours of each place are given
pub record CanFillRows (b : Partition) (fits : ℤ → Type 0) (earlier : Neighbours) (lent : LentCut) (next mark : List ℕ)
    (room : ℕ) : Type 0 where
  pub cut : IsCutOf b lent
  pub thinned : HasThinned b.order earlier.starts.now earlier.places.now
  pub nexts : length next + 1 ≡ length b.first
  pub marks : length mark + 1 ≡ length b.first
  pub all : room ≡ slice_index b.ptr (length b.first - 1)
  pub most : fits (pos (length b.owner))

-- the rows below the blocks can be written into so many numbers, each of which fits: there is a place for each supernode
-- in two lists
pub record CanWriteRows {A : Type 0} (fits : ℤ → Type 0) (m : OrderedMatrix) (b : Partitioned A) (room : ℕ) : Type 0 where
  pub parts : IsPartitionOf m b.cut.first.items b.cut.owner.items b.cut.ptr.items b.cut.parent.items b.lists.starts.items
      b.lists.neighbours.items
  pub nexts : length b.next.items + 1 ≡ length b.cut.first.items
  pub marks : length b.mark.items + 1 ≡ length b.cut.first.items
  pub all : room ≡ slice_index b.cut.ptr.items (length b.cut.first.items - 1)
  pub most : fits m.size

-- the later neighbours of each place of the order of a graph are given, and each place fits
pub record CanWriteFactor (o : Order) (fits : ℤ → Type 0) (starts later : List ℕ) : Type 0 where
  pub laws : IsGraph o.graph
  pub most : (j : ℕ) → j < length o.rows → fits (pos j)
  pub later_are : HasLater o starts later

-- the lists in which a factor is made: its pointers and parents, and those for the work
pub record WorkLists : Type 0 where
  pub ptr : List ℕ
  pub parent : List (Option ℕ)
  pub mark : List ℕ
  pub link : List (Option ℕ)
  pub fresh : List ℕ

-- so it is made, in numbers of which none is written yet, and which have the capacity for the room
pub record CanFill {N : Type 0} (fits : ℤ → Type 0) (o : Order) (later : Neighbours) (l : WorkLists) (rows : List N)
    (room capacity : ℕ) : Type 0 where
  pub lists : CanWriteFactor o fits later.starts.now later.places.now
  pub sizes : FactorSizes o l.ptr l.parent l.mark l.link l.fresh
  pub empty : rows ≡ []
  pub capacity_is : room ≤ capacity

-- the column form of an order is placed, and each of its n places fits
pub record HasFitPlaces (fits : ℤ → Type 0) (o : Order) (n : ℕ) (ap ai : List ℤ) (places : List ℕ) : Type 0 where
  pub placed : IsPlaced o n ap ai places
  pub fit : (j : ℕ) → j < n → fits (pos j)

-- there is room for the columns of n places and so many entries, but for the rows, and for the work
pub record HasLentColumnRoom (n entries : ℕ) (ptr : List ℕ) (parent links : List (Option ℕ)) (memory : List ℕ) : Type 0 where
  pub pointers : length ptr ≡ n + 1
  pub parents : length parent ≡ n
  pub links_room : n ≤ length links
  pub words : entries + 3 * n + 1 ≤ length memory

-- there is room for the counts of n places and so many entries, and for the work
pub record HasLentCountRoom (n entries : ℕ) (counts : List ℕ) (parent : List (Option ℕ)) (memory : List ℕ) : Type 0 where
  pub counts_room : length counts ≡ n
  pub parents : length parent ≡ n
  pub words : 2 * entries + 10 * n + 7 ≤ length memory

-- the column form is that of an order with n places, each of which fits
pub record IsFitOrder (fits : ℤ → Type 0) (o : Order) (n : ℕ) (ap ai p : List ℤ) : Type 0 where
  pub posed : IsPosed o n ap ai p
  pub fit : (j : ℕ) → j < n → fits (pos j)

-- the matrix is the one with these pointers, indices and list, and its number of rows fits
pub record IsFitMatrix (fits : ℤ → Type 0) (m : OrderedMatrix) (n : ℤ) (ap ai p : List ℤ) : Type 0 where
  pub fit : fits n
  pub matrix : m ≡ ordered_matrix n ap ai p

-- the order is that of the graph of a matrix, and of the rows that the list tells
pub record IsOrderOf (o : Order) (n : ℤ) (ap ai p : List ℤ) : Type 0 where
  pub graph : o.graph ≡ graph_of (unsigned_abs n) ap ai
  pub rows : o.rows ≡ naturals p
