-- An order with fewer arcs, whose columns have as many entries. Source: Liu 1986.
use Rattle.std.specs.Prelude.{ℕ, true, ◌≡◌, ◌<◌, ◌≤◌, ◌+◌, ◌⊎◌, List, Option, None, Some, length, slice_index, slice_index_or}
use Rattle.std.specs.Prelude.{slice_range, Contains}
use Rattle.std.specs.List.{range_with_len}
use Rattle.amd_model.specs.Quotient.{has}
use Rattle.amd_factor.specs.Orders.{Order}
use Rattle.amd_factor.specs.Trees.{Over}

-- an edge joins the rows of two places
abbrev pub Joined : Order → ℕ → ℕ → Type 0
Joined o j i = o.graph.edge (slice_index o.rows j) (slice_index o.rows i) ≡ true

-- each arc of the order t is one of the order o, and below or at the place from which an arc of o leads to a place one
-- of t leads to it
pub record Thins (o t : Order) : Type 0 where
  pub places : length t.rows ≡ length o.rows
  pub among : (j i : ℕ) → j < i → i < length o.rows → Joined t j i → Joined o j i
  pub covered : (j i : ℕ) → j < i → i < length o.rows → Joined o j i → (b : ℕ) × Over o.graph o.rows b j × Joined t b i

-- the list names earlier neighbours of place j alone, and one that each earlier neighbour is or stands over
pub record AreThinned (o : Order) (j : ℕ) (earlier : List ℕ) : Type 0 where
  pub among : (i : ℕ) → Contains earlier i → (i < j) × Joined o i j
  pub covered : (i : ℕ) → i < j → Joined o i j → (b : ℕ) × Contains earlier b × Over o.graph o.rows b i

-- such neighbours of place j stand in the list from place starts[j] on, before starts[j + 1]
pub record HasThinned (o : Order) (starts earlier : List ℕ) : Type 0 where
  pub room : length starts ≡ length o.rows + 1
  pub ascending : (j : ℕ) → j < length o.rows → slice_index starts j ≤ slice_index starts (j + 1)
  pub within : (j : ℕ) → j < length o.rows → slice_index starts (j + 1) ≤ length earlier
  pub each : (j : ℕ) → j < length o.rows → AreThinned o j
      (slice_range earlier (slice_index starts j) (slice_index starts (j + 1)))

-- the order of n rows, each at its own place, whose earlier neighbours the lists name
abbrev pub order_of_lists : ℕ → List ℕ → List ℕ → Order
order_of_lists n starts lists = record {
  graph = record {
    size = n;
    edge = λ j i. has (slice_range lists (slice_index starts i) (slice_index starts (i + 1))) j;
  };
  rows = range_with_len 0 n;
}

-- the numbers from place begin on, before end, that have not the mark stand from place first on, before last; those
-- before first and from end on are as they were
pub record Keeps (begin end first last stamp : ℕ) (mark old new : List ℕ) : Type 0 where
  pub long : length new ≡ length old
  pub range : (first ≤ last) × (last ≤ end)
  pub before : (x : ℕ) → x < first → slice_index new x ≡ slice_index old x
  pub behind : (x : ℕ) → end ≤ x → slice_index new x ≡ slice_index old x
  pub from : (x : ℕ) → first ≤ x → x < last → (y : ℕ) × (begin ≤ y) × (y < end) × (slice_index old y ≡ slice_index new x)
  pub kept : (y : ℕ) → begin ≤ y → y < end → (slice_index mark (slice_index old y) ≡ stamp) ⊎
      ((x : ℕ) × (first ≤ x) × (x < last) × (slice_index new x ≡ slice_index old y))

-- of the numbers from place begin on, before end, those that stand from place first on, before last, are all but some
-- that are parents of others
pub record IsThinned (begin end first last : ℕ) (parent : List (Option ℕ)) (old new : List ℕ) : Type 0 where
  pub long : length new ≡ length old
  pub range : (first ≤ last) × (last ≤ end)
  pub before : (x : ℕ) → x < first → slice_index new x ≡ slice_index old x
  pub behind : (x : ℕ) → end ≤ x → slice_index new x ≡ slice_index old x
  pub from : (x : ℕ) → first ≤ x → x < last → (y : ℕ) × (begin ≤ y) × (y < end) × (slice_index old y ≡ slice_index new x)
  pub kept : (y : ℕ) → begin ≤ y → y < end → ((x : ℕ) × (first ≤ x) × (x < last) × (slice_index new x ≡ slice_index old y)) ⊎
      ((z : ℕ) × (begin ≤ z) × (z < end) × (slice_index_or parent (slice_index old z) None ≡ Some (slice_index old y)))
