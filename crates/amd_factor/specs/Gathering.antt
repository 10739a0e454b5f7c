-- A column under work: what it takes over from a child, and which rows are new in it.
use Rattle.std.specs.Prelude.{ℕ, ◌≡◌, ◌<◌, ◌≤◌, ◌↔◌, ◌+◌, ◌==◌, ◌⊎◌, List, Contains, Option, None, Some, length}
use Rattle.std.specs.Prelude.{slice_index, slice_index_or, slice_range, count_by}
use Rattle.std.specs.List.Sorted.{IsStrictlyIncreasing}
use Rattle.amd_model.specs.Below.{count_below}
use Rattle.amd_model.specs.Factor.{IsColumn}
use Rattle.amd_factor.specs.Columns.{first_of}
use Rattle.amd_factor.specs.Orders.{Order}
use Rattle.amd_factor.specs.Trees.{Entry, IsParent}

-- a place in an order, and what its column takes over
pub record Column : Type 0 where
  pub order : Order
  pub place : ℕ
  pub inherited : List ℕ

-- place j is an entry of the column
abbrev pub EntryOf : Column → ℕ → Type 0
EntryOf c j = Entry c.order.graph c.order.rows c.place j

-- place m is a child of the column
abbrev pub IsChild : Column → ℕ → Type 0
IsChild c m = IsParent c.order.graph c.order.rows m c.place

-- a column takes over nothing, or the entries of a child behind its own place
abbrev pub Inherits : Column → Option ℕ → Type 0
Inherits c None = length c.inherited ≡ 0
Inherits c (Some child) = IsChild c child ×
    ((j : ℕ) → Contains c.inherited j ↔ ((c.place < j) × Entry c.order.graph c.order.rows child j))

-- the rows that have the mark are those of the column so far: taken over, or new; each new one is listed once
pub record Marks (c : Column) (stamp : ℕ) (fresh mark : List ℕ) : Type 0 where
  pub room : length mark ≡ length c.order.rows
  pub recent : stamp ≤ c.place + 1
  pub low : (j : ℕ) → j < length c.order.rows → slice_index mark j ≤ c.place + 1
  pub marked : (j : ℕ) → c.place < j → j < length c.order.rows →
      (slice_index mark j ≡ stamp) ↔ (Contains c.inherited j ⊎ Contains fresh j)
  pub entries : (j : ℕ) → Contains fresh j → EntryOf c j
  pub apart : (j : ℕ) → Contains fresh j → ¬ (Contains c.inherited j)
  pub once : (j : ℕ) → count_by (λ x. x == j) fresh ≤ 1
  pub few : length fresh ≤ count_below (length c.order.rows) (λ j. slice_index mark j == stamp)

-- before place k the marks tell the entries of a column, behind its own place
pub record MarksTell (o : Order) (k : ℕ) (column : Option ℕ) (stamp : ℕ) (mark : List ℕ) : Type 0 where
  pub room : length mark ≡ length o.rows
  pub recent : stamp ≤ k
  pub low : (j : ℕ) → j < length o.rows → slice_index mark j ≤ k
  pub tell : (m : ℕ) → column ≡ Some m → (m < k) × ((j : ℕ) → m < j → j < length o.rows →
      (slice_index mark j ≡ stamp) ↔ Entry o.graph o.rows m j)

-- the new rows of a column rise, and with what it takes over they are its entries
pub record Completes (c : Column) (fresh : List ℕ) : Type 0 where
  pub rising : IsStrictlyIncreasing fresh
  pub apart : (j : ℕ) → Contains c.inherited j → ¬ (Contains fresh j)
  pub members : (j : ℕ) → (Contains c.inherited j ⊎ Contains fresh j) ↔ EntryOf c j

-- the columns before place k stand one behind the other, from the first place on
pub record HoldBefore (o : Order) (k : ℕ) (ptr rows : List ℕ) : Type 0 where
  pub pointers : length ptr ≡ length o.rows + 1
  pub first : slice_index ptr 0 ≡ 0
  pub ascending : (m i : ℕ) → m ≤ i → i ≤ k → slice_index ptr m ≤ slice_index ptr i
  pub within : slice_index ptr k ≤ length rows
  pub each : (m : ℕ) → m < k →
      IsColumn o.graph o.rows m (slice_range rows (slice_index ptr m) (slice_index ptr (m + 1)))

-- the columns before place k stand in the rows, each from its own start on, before its own end; they may share entries
pub record StandAt (o : Order) (k : ℕ) (starts ends rows : List ℕ) : Type 0 where
  pub begins : length o.rows ≤ length starts
  pub stops : length o.rows ≤ length ends
  pub range : (m : ℕ) → m < k → slice_index starts m ≤ slice_index ends m
  pub within : (m : ℕ) → m < k → slice_index ends m ≤ length rows
  pub each : (m : ℕ) → m < k → IsColumn o.graph o.rows m (slice_range rows (slice_index starts m) (slice_index ends m))

-- the last child of place q before place k, or none
abbrev pub IsLastChild : Order → ℕ → ℕ → Option ℕ → Type 0
IsLastChild o q k None = (m : ℕ) → m < k → ¬ (IsParent o.graph o.rows m q)
IsLastChild o q k (Some child) = (child < k) × IsParent o.graph o.rows child q ×
    ((m : ℕ) → child < m → m < k → ¬ (IsParent o.graph o.rows m q))

-- before place k a place from k on is linked to its last child, and one before k to the child before it
pub record LinkChildren (o : Order) (k : ℕ) (link : List (Option ℕ)) : Type 0 where
  pub room : length link ≡ length o.rows
  pub last : (q : ℕ) → k ≤ q → q < length o.rows → IsLastChild o q k (slice_index_or link q None)
  pub previous : (m q : ℕ) → m < k → IsParent o.graph o.rows m q →
      IsLastChild o q m (slice_index_or link m None)

-- the parents of the columns before place k are their first entries
pub record TellFirst (o : Order) (k : ℕ) (ptr rows : List ℕ) (parent : List (Option ℕ)) : Type 0 where
  pub room : length parent ≡ length o.rows
  pub each : (m : ℕ) → m < k → slice_index_or parent m None ≡ first_of
      (slice_range rows (slice_index ptr m) (slice_index ptr (m + 1)))

-- what the columns before place k left: they stand, are linked, and the marks tell one of them
pub record Filled (o : Order) (k : ℕ) (ptr rows : List ℕ) (parent link : List (Option ℕ)) (column : Option ℕ)
    (stamp : ℕ) (mark : List ℕ) : Type 0 where
  pub columns : HoldBefore o k ptr rows
  pub parents : TellFirst o k ptr rows parent
  pub links : LinkChildren o k link
  pub marks : MarksTell o k column stamp mark
