-- The supernodes of a factor under work: where each begins, the supernode of each place, and the rows below the blocks
-- as far as they are written. Source: Liu, Ng and Peyton 1993; Liu 1990.
use Rattle.std.specs.Prelude.{ℕ, ℤ, pos, ◌≡◌, ◌<◌, ◌≤◌, ◌+◌, ◌-◌, ◌⊎◌, List, [], Contains, Option, None, Some, length}
use Rattle.std.specs.Prelude.{◌≢◌, slice_index, slice_index_or, unsigned_abs}
use Rattle.amd_model.specs.Factor.{IsFactor}
use Rattle.amd_model.specs.Input.Columns.{IsInput}
use Rattle.amd_model.specs.Input.Pattern.{graph_of}
use Rattle.amd_types.specs.Naturals.{naturals}
use Rattle.amd_factor.specs.Orders.{Order, Permutes}
use Rattle.amd_factor.specs.Supernodes.{AreRuns, Joined, TellsOver}
use Rattle.amd_factor.specs.Thinning.{HasThinned}

-- the numbers of entries of columns, and their parents: a column that has one has an entry, and its parent is behind it
pub record HaveParents (sizes : List ℕ) (parent : List (Option ℕ)) : Type 0 where
  pub room : length parent ≡ length sizes
  pub each : (k q : ℕ) → k < length sizes → slice_index_or parent k None ≡ Some q →
      (k < q) × (q < length sizes) × (0 < slice_index sizes k)

-- place k is joined to the next one, by these
pub record IsJoined (sizes : List ℕ) (parent : List (Option ℕ)) (k : ℕ) : Type 0 where
  pub over : slice_index_or parent k None ≡ Some (k + 1)
  pub count : slice_index sizes k ≡ slice_index sizes (k + 1) + 1

-- what the number of place k tells of that of the next one: it is the same where k is joined to it, and else one more
abbrev pub NumbersNext : (ℕ → Type 0) → ℕ → ℕ → ℕ → Type 0
NumbersNext joined k number next = (joined k × (next ≡ number)) ⊎ ((¬ (joined k)) × (next ≡ number + 1))

-- the runs of n places have numbers from 0 on, below count
pub record AreNumbered (joined : ℕ → Type 0) (n : ℕ) (owner : List ℕ) (count : ℕ) : Type 0 where
  pub room : length owner ≡ n
  pub begin : 0 < n → slice_index owner 0 ≡ 0
  pub step : (k : ℕ) → k + 1 < n → NumbersNext joined k (slice_index owner k) (slice_index owner (k + 1))
  pub none : n ≡ 0 → count ≡ 0
  pub end : (k : ℕ) → k + 1 ≡ n → count ≡ slice_index owner k + 1

-- place k and the next one have one number
abbrev pub AreSame : List ℕ → ℕ → Type 0
AreSame owner k = (k + 1 < length owner) × (slice_index owner (k + 1) ≡ slice_index owner k)

-- each place lies in the run that owns it
pub record Own (first owner : List ℕ) : Type 0 where
  pub inside : (k : ℕ) → k < length owner → slice_index owner k + 1 < length first
  pub low : (k : ℕ) → k < length owner → slice_index first (slice_index owner k) ≤ k
  pub high : (k : ℕ) → k < length owner → k < slice_index first (slice_index owner k + 1)

-- the last places of the runs before place k have that many entries together
pub data SumEnds (owner sizes : List ℕ) : ℕ → ℕ → Type 0 where
  nothing : SumEnds owner sizes 0 0
  within : {k total : ℕ} → AreSame owner k → SumEnds owner sizes k total → SumEnds owner sizes (k + 1) total
  ends : {k total : ℕ} → ¬ (AreSame owner k) → SumEnds owner sizes k total → SumEnds owner sizes (k + 1)
      (total + slice_index sizes k)

-- the last place of run s
abbrev pub last_of : List ℕ → ℕ → ℕ
last_of first s = slice_index first (s + 1) - 1

-- the rows of each run have room from place ptr[s] on, before ptr[s + 1]: as many as its last place has entries
pub record HaveRoom (sizes first ptr : List ℕ) : Type 0 where
  pub pointers : length ptr ≡ length first
  pub start : slice_index ptr 0 ≡ 0
  pub ends : (s : ℕ) → s + 1 < length first → slice_index ptr (s + 1) ≡ slice_index ptr s
      + slice_index sizes (last_of first s)

-- the owner of a place, if there is one
abbrev pub owner_at : List ℕ → Option ℕ → Option ℕ
owner_at owner None = None
owner_at owner (Some q) = Some (slice_index owner q)

-- the parent of each run is the owner of the parent of its last place
pub record GoOver (parent : List (Option ℕ)) (first owner : List ℕ) (over : List (Option ℕ)) : Type 0 where
  pub room : length over + 1 ≡ length first
  pub each : (s : ℕ) → s + 1 < length first → slice_index_or over s None ≡ owner_at owner
      (slice_index_or parent (last_of first s) None)

-- a factor by supernodes, but for its columns and the rows below the blocks
pub record Partition : Type 0 where
  pub order : Order
  pub first : List ℕ
  pub owner : List ℕ
  pub ptr : List ℕ
  pub parent : List (Option ℕ)

-- the column of the last place of supernode s: the rows below its block
abbrev pub last_column : Partition → List (List ℕ) → ℕ → List ℕ
last_column b columns s = slice_index_or columns (last_of b.first s) []

-- the supernodes of the factor that has these columns
pub record IsPartition (b : Partition) (columns : List (List ℕ)) : Type 0 where
  pub factor : IsFactor b.order.graph b.order.rows columns
  pub runs : AreRuns (Joined columns) (length columns) b.first
  pub places : length b.owner ≡ length columns
  pub own : Own b.first b.owner
  pub pointers : length b.ptr ≡ length b.first
  pub start : slice_index b.ptr 0 ≡ 0
  pub ends : (s : ℕ) → s + 1 < length b.first →
      slice_index b.ptr (s + 1) ≡ slice_index b.ptr s + length (last_column b columns s)
  pub parents : length b.parent + 1 ≡ length b.first
  pub over : (s : ℕ) → s + 1 < length b.first →
      TellsOver b.first (last_column b columns s) (slice_index_or b.parent s None)

-- they are those of a factor
pub record IsCut (b : Partition) : Type 0 where
  pub columns : List (List ℕ)
  pub partition : IsPartition b columns

-- the entries of a column before place j stand in rows from place from on, before place to
pub record Written (column : List ℕ) (j from to : ℕ) (rows : List ℕ) : Type 0 where
  pub low : from ≤ to
  pub most : to ≤ from + length column
  pub stand : (i : ℕ) → from + i < to → slice_index rows (from + i) ≡ slice_index column i
  pub before : (i : ℕ) → from + i < to → slice_index column i < j
  pub rest : (i : ℕ) → to ≤ from + i → i < length column → j ≤ slice_index column i

-- and so of the rows of each supernode
pub record WrittenTo (b : Partition) (j : ℕ) (next rows : List ℕ) : Type 0 where
  pub cut : IsCut b
  pub nexts : length next + 1 ≡ length b.first
  pub room : length rows ≡ slice_index b.ptr (length b.first - 1)
  pub each : (s : ℕ) → s + 1 < length b.first →
      Written (last_column b cut.columns s) j (slice_index b.ptr s) (slice_index next s) rows

-- no supernode has the mark of place j, or of a later one
pub record MarkedBefore (b : Partition) (j : ℕ) (mark : List ℕ) : Type 0 where
  pub room : length mark + 1 ≡ length b.first
  pub low : (s : ℕ) → s < length mark → slice_index mark s ≤ j

-- supernode s has the mark of place j
abbrev pub IsMarkedBy : List ℕ → ℕ → ℕ → Type 0
IsMarkedBy mark j s = slice_index mark s ≡ j + 1

-- supernode s is that of place j, or stands before it and has the row j
abbrev pub HasRow : Partition → List (List ℕ) → ℕ → ℕ → Type 0
HasRow b columns j s = (s ≡ slice_index b.owner j) ⊎ ((s < slice_index b.owner j) × Contains (last_column b columns s) j)

-- row j climbs, and has come to supernode s, that of its own place where no climb is under way: what has its mark has
-- the row written, and so have all that stand over it, but for what is to come
pub record Climbs (b : Partition) (j s : ℕ) (next mark rows : List ℕ) : Type 0 where
  pub cut : IsCut b
  pub nexts : length next + 1 ≡ length b.first
  pub marks : length mark + 1 ≡ length b.first
  pub room : length rows ≡ slice_index b.ptr (length b.first - 1)
  pub low : (t : ℕ) → t < length mark → slice_index mark t ≤ j + 1
  pub own : IsMarkedBy mark j (slice_index b.owner j)
  pub here : HasRow b cut.columns j s
  pub done : (t : ℕ) → t + 1 < length b.first → IsMarkedBy mark j t →
      Written (last_column b cut.columns t) (j + 1) (slice_index b.ptr t) (slice_index next t) rows
  pub rest : (t : ℕ) → t + 1 < length b.first → ¬ (IsMarkedBy mark j t) →
      Written (last_column b cut.columns t) j (slice_index b.ptr t) (slice_index next t) rows
  pub onward : (t : ℕ) → t < slice_index b.owner j → IsMarkedBy mark j t →
      (q : ℕ) × (slice_index_or b.parent t None ≡ Some q) × (IsMarkedBy mark j q ⊎ (q ≡ s))

-- a matrix with as many rows and columns, its pointers and its row indices, and a list of its rows
pub record OrderedMatrix : Type 0 where
  pub size : ℤ
  pub pointers : List ℤ
  pub indices : List ℤ
  pub list : List ℤ

abbrev pub ordered_matrix : ℤ → List ℤ → List ℤ → List ℤ → OrderedMatrix
ordered_matrix size pointers indices list = record { size = size; pointers = pointers; indices = indices; list = list }

-- its graph, and the order that the list tells
abbrev pub order_of : OrderedMatrix → Order
order_of m = record { graph = graph_of (unsigned_abs m.size) m.pointers m.indices; rows = naturals m.list }

-- the supernodes of the factor of a matrix under the order that its list tells, but for the rows below the blocks, and
-- lists of earlier neighbours, thinned or whole; where there are rows the matrix is a column form
pub record IsPartitionOf (m : OrderedMatrix) (first owner ptr : List ℕ) (parent : List (Option ℕ))
    (starts earlier : List ℕ) : Type 0 where
  pub form : m.size ≢ pos 0 → IsInput m.size m.size m.pointers m.indices
  pub size : m.size ≡ pos (length owner)
  pub permutes : Permutes (unsigned_abs m.size) m.list (naturals m.list)
  pub near : HasThinned (order_of m) starts earlier
  pub cut : IsCut (record { order = order_of m; first = first; owner = owner; ptr = ptr; parent = parent })
