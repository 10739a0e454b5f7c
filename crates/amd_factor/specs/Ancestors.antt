-- Links to ancestors in the elimination tree, while a row climbs by them. Source: Liu 1986.
use Rattle.std.specs.Prelude.{ℕ, true, ◌≡◌, ◌≢◌, ◌<◌, ◌≤◌, ◌⊎◌, List, Option, None, length, slice_index, slice_index_or}
use Rattle.amd_model.specs.Graph.{IsGraph}
use Rattle.amd_factor.specs.Orders.{Order}
use Rattle.amd_factor.specs.Trees.{InSubtree, Over}
use Rattle.amd_factor.specs.Walks.{TellParents}

-- each place before i that is m, or stands over it, has a parent
abbrev pub IsDone : Order → ℕ → List (Option ℕ) → ℕ → Type 0
IsDone o i parent m = (r : ℕ) → r < i → Over o.graph o.rows m r → slice_index_or parent r None ≢ None

-- row i climbs, and has come to place k; k is i where no climb is under way: each link leads to a place over its own,
-- and where it leads to its own there is no parent; what is linked to row i has all parents before i, or stands below k
pub record Climbing (o : Order) (i k : ℕ) (parent : List (Option ℕ)) (ancestor : List ℕ) : Type 0 where
  pub tells : TellParents o i parent
  pub room : length ancestor ≡ length o.rows
  pub own : slice_index ancestor i ≡ i
  pub fresh : (m : ℕ) → i ≤ m → slice_index_or parent m None ≡ None
  pub within : k ≤ i
  pub pending : k ≢ i → InSubtree o.graph o.rows i k
  pub links : (m : ℕ) → m < i → (slice_index ancestor m ≡ m) ⊎ ((m < slice_index ancestor m) ×
      (slice_index ancestor m ≤ i) ×
      Over o.graph o.rows m (slice_index ancestor m))
  pub roots : (m : ℕ) → m < i → slice_index ancestor m ≡ m → slice_index_or parent m None ≡ None
  pub marked : (m : ℕ) → m < i → slice_index ancestor m ≡ i → (r : ℕ) → r < i → Over o.graph o.rows m r →
      (slice_index_or parent r None ≢ None) ⊎ ((m < k) × Over o.graph o.rows k r)

-- row i can climb from its earlier neighbour j
pub record StartsClimb (o : Order) (j i : ℕ) (parent : List (Option ℕ)) (ancestor : List ℕ) : Type 0 where
  pub laws : IsGraph o.graph
  pub place : i < length o.rows
  pub earlier : j < i
  pub edge : o.graph.edge (slice_index o.rows j) (slice_index o.rows i) ≡ true
  pub climbing : Climbing o i i parent ancestor

-- the links between two rows: none leads to row i or behind it
pub record Ready (o : Order) (i : ℕ) (parent : List (Option ℕ)) (ancestor : List ℕ) : Type 0 where
  pub tells : TellParents o i parent
  pub room : length ancestor ≡ length o.rows
  pub fresh : (m : ℕ) → i ≤ m → slice_index_or parent m None ≡ None
  pub links : (m : ℕ) → m < i → (slice_index ancestor m ≡ m) ⊎ ((m < slice_index ancestor m) ×
      (slice_index ancestor m < i) ×
      Over o.graph o.rows m (slice_index ancestor m))
  pub roots : (m : ℕ) → m < i → slice_index ancestor m ≡ m → slice_index_or parent m None ≡ None
