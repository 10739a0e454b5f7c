-- Columns that share entries: one with nothing new has those of a child where they stand.
use Rattle.std.specs.Prelude.{ℕ, ℤ, ◌≡◌, ◌<◌, ◌≤◌, ◌-◌, ◌^◌, List, [], None, Some, map, length, pos, slice_index}
use Rattle.std.specs.Prelude.{slice_range, take}
use Rattle.amd_model.specs.Factor.{IsColumn}
use Rattle.amd_model.specs.Graph.{IsGraph}
use Rattle.amd_types.specs.Naturals.{naturals}
use Rattle.amd_factor.specs.Columns.{first_of}
use Rattle.amd_factor.specs.Gathering.{LinkChildren, MarksTell, StandAt}
use Rattle.amd_factor.specs.Neighbours.{HasLater}
use Rattle.amd_factor.specs.Numbers.{AreNonNegative, Plans}
use Rattle.amd_factor.specs.Orders.{Order}
use Rattle.amd_factor.specs.declared.column.Plan.{Plan}
use Rattle.amd_factor.specs.declared.sharing.Placed.{Placed}
use Rattle.amd_factor.specs.declared.sharing.SharedLists.{SharedLists}

-- where a column before place k has entries, the number at its place is the first of them
pub record TellFirsts (o : Order) (k : ℕ) (starts ends rows firsts : List ℕ) : Type 0 where
  pub room : length o.rows ≤ length firsts
  pub each : (m : ℕ) → m < k → slice_index starts m < slice_index ends m →
      first_of (slice_range rows (slice_index starts m) (slice_index ends m)) ≡ Some (slice_index firsts m)

-- the columns before place k stand in numbers that are not negative, with their children
pub record Share {A N : Type 0} (value : N → ℤ) (o : Order) (k : ℕ) (l : SharedLists A) (rows : List N) : Type 0 where
  pub numbers : AreNonNegative (map value rows)
  pub stand : StandAt o k l.starts.items l.ends.items (naturals (map value rows))
  pub links : LinkChildren o k l.link.items

-- column k stands from place begin on, before end
pub record StandsFrom {N : Type 0} (value : N → ℤ) (o : Order) (k begin end : ℕ) (rows : List N) : Type 0 where
  pub range : begin ≤ end
  pub within : end ≤ length rows
  pub column : IsColumn o.graph o.rows k (slice_range (naturals (map value rows)) begin end)

-- column k is planned, in rows of numbers that are not negative
pub record IsPlanned {N : Type 0} (value : N → ℤ) (o : Order) (k : ℕ) (plan : Plan) (fresh : List ℕ) (rows : List N) : Type 0
  where
    pub plans : Plans o k (naturals (map value rows)) plan.from plan.to fresh
    pub numbers : AreNonNegative (map value rows)
    pub small : length o.rows < 2 ^ 64

-- what stands from place from on, before to, is nothing, or stands behind all other rows and before the fresh ones
pub record Follows (rows : List ℕ) (from to : ℕ) (fresh : List ℕ) : Type 0 where
  pub last : from < to → to ≡ length rows
  pub less : from < to → slice_index rows (to - 1) < slice_index fresh 0

-- a planned column, each of whose rows fits, can be placed behind the numbers of those before it, the first ones, within the room
pub record CanPlaceColumn {N : Type 0} (value : N → ℤ) (fits : ℤ → Type 0) (plan : Plan) (fresh : List ℕ) (used : ℕ)
    (rows : List N) (room : ℕ) : Type 0 where
  pub order : Order
  pub column : ℕ
  pub planned : IsPlanned value order column plan fresh (take used rows)
  pub fit : (j : ℕ) → j < length order.rows → fits (pos j)
  pub within : used ≤ length rows
  pub bound : length rows ≤ room

-- it is placed: the columns then have the first numbers, none of them negative, and at least as many as before; each column
-- of an order that is planned so stands in them
pub record IsPlacedColumn {N : Type 0} (value : N → ℤ) (plan : Plan) (fresh : List ℕ) (used : ℕ) (old : List N) (placed : Placed)
    (new : List N) : Type 0 where
  pub more : used ≤ placed.used
  pub within : placed.used ≤ length new
  pub numbers : AreNonNegative (map value (take placed.used new))
  pub stands : (o : Order) (k : ℕ) → IsPlanned value o k plan fresh (take used old) →
      StandsFrom value o k placed.begin placed.end (take placed.used new)

-- the lists have a place for each row
pub record HasColumnPlaces {A : Type 0} (o : Order) (l : SharedLists A) : Type 0 where
  pub starts : length l.starts.items ≡ length o.rows
  pub ends : length l.ends.items ≡ length o.rows
  pub links : length l.link.items ≡ length o.rows
  pub marks : length l.mark.items ≡ length o.rows
  pub fresh : length l.fresh.items ≡ length o.rows

-- but for marks and new rows, the lists are as they were
abbrev pub KeepsColumns : {A : Type 0} → SharedLists A → SharedLists A → Type 0
KeepsColumns old new = (new.starts.items ≡ old.starts.items) × (new.ends.items ≡ old.ends.items) ×
    (new.link.items ≡ old.link.items)

-- it can be said of column k that it stands from place begin on, before end
pub record CanStand {A N : Type 0} (value : N → ℤ) (o : Order) (k begin end : ℕ) (l : SharedLists A) (rows : List N)
    (firsts : List ℕ) : Type 0 where
  pub laws : IsGraph o.graph
  pub place : k < length o.rows
  pub small : length o.rows < 2 ^ 64
  pub places : HasColumnPlaces o l
  pub columns : Share value o k l rows
  pub told : TellFirsts o k l.starts.items l.ends.items (naturals (map value rows)) firsts
  pub stands : StandsFrom value o k begin end rows

-- the columns can be made, by lists of later neighbours: no column stands yet, none is marked, and no row is written;
-- each row fits
pub record CanShare {A N : Type 0} (fits : ℤ → Type 0) (o : Order) (starts later : List ℕ) (l : SharedLists A) (rows : List N)
    : Type 0 where
  pub laws : IsGraph o.graph
  pub neighbours : HasLater o starts later
  pub places : HasColumnPlaces o l
  pub links : LinkChildren o 0 l.link.items
  pub marks : MarksTell o 0 None 0 l.mark.items
  pub fit : (j : ℕ) → j < length o.rows → fits (pos j)
  pub empty : rows ≡ []
