-- How far the walk over the columns has come.
use Rattle.std.specs.Prelude.{◌≡◌, ◌+◌, ◌<◌, ◌≤◌, ◌⊎◌, ◌||◌, ◌&&◌, ℕ, ℤ, Bool, true, cond, nat_eq, nat_lt, List}
use Rattle.std.specs.Prelude.{flat_map, length}
use Rattle.std.specs.Prelude.{slice_index}
use Rattle.amd_model.specs.Below.{list_below}
use Rattle.amd_model.specs.Graph.{Graph}
use Rattle.amd_model.specs.Quotient.{met_at}
use Rattle.amd_types.specs.Naturals.{naturals, count_graph, is_before, is_entry}

-- the upper entry (a, b) was read: it stands in a column before k, or in column k above row m
unfoldable pub is_read : ℕ → ℕ → ℕ → ℕ → Bool
is_read k m a b = nat_lt b k || (nat_eq b k && nat_lt a m)

-- the edge from a up to b was met: its upper entry was read, or it has none and the lower entry stands before t[a]
unfoldable pub is_met : ℕ → List ℕ → List ℕ → List ℕ → ℕ → ℕ → ℕ → ℕ → Bool
is_met n ap ai t k m a b = nat_lt a b && cond (is_entry n ap ai a b) (is_read k m a b)
    (is_before ap ai (slice_index t a) b a)

-- the arcs met so far
unfoldable pub met : ℕ → List ℕ → List ℕ → List ℕ → ℕ → ℕ → ℕ → ℕ → Bool
met n ap ai t k m a b = is_met n ap ai t k m a b || is_met n ap ai t k m b a

-- the edges that the columns before k give, in the order in which they are met
unfoldable pub edges_before : (ℕ → ℕ → Bool) → ℕ → List (ℕ × ℕ)
edges_before pair k = flat_map (met_at pair) (list_below k (λ c. true))

-- of the columns that were read so far, one at or behind row b holds row a; column n, the end, counts as holding each
-- row
abbrev pub IsReached : ℕ → List ℕ → List ℕ → ℕ → ℕ → ℕ → ℕ → Type 0
IsReached n ap ai k m a b = (c : ℕ) × ((c < k) ⊎ ((c ≡ k) × (a < m))) × (c < n → is_entry n ap ai a c ≡ true) × (b ≤ c)

-- the pointers t are right where the upper entries of the columns before k, and of column k above row m, were read
pub record IsScan (n : ℕ) (ap ai t : List ℕ) (k m : ℕ) : Type 0 where
  pub size : length t ≡ k
  pub start : (a : ℕ) → a < k → a < n → slice_index ap a ≤ slice_index t a
  pub stop : (a : ℕ) → a < k → a < n → slice_index t a ≤ slice_index ap (a + 1)
  pub low : (a r : ℕ) → a < k → a < n → slice_index t a ≤ r → r < slice_index ap (a + 1) → a < slice_index ai r
  pub unset : (a : ℕ) → k ≤ a → slice_index t a ≡ 0
  pub passed : (a c r : ℕ) → a < c → a < n → (c < k) ⊎ ((c ≡ k) × (a < m)) → (c < n → is_entry n ap ai a c ≡ true) →
      slice_index ap a ≤ r →
      r < slice_index ap (a + 1) → slice_index ai r ≤ c → r < slice_index t a
  pub reached : (a r : ℕ) → a < n → slice_index ap a ≤ r → r < slice_index t a → (slice_index ai r ≤ a)
      ⊎ IsReached n ap ai k m a (slice_index ai r)

-- the graph of pointers and rows as the caller has them
abbrev pub graph_read : ℕ → List ℤ → List ℤ → Graph
graph_read n ap ai = count_graph n (naturals ap) (naturals ai)

-- row i stands in column j, for pointers and rows as the caller has them
abbrev pub entry_read : ℕ → List ℤ → List ℤ → ℕ → ℕ → Bool
entry_read n ap ai = is_entry n (naturals ap) (naturals ai)

-- the arcs met so far, for pointers and rows as the caller has them
abbrev pub met_read : ℕ → List ℤ → List ℤ → List ℕ → ℕ → ℕ → ℕ → ℕ → Bool
met_read n ap ai t k m = met n (naturals ap) (naturals ai) t k m

-- the pointers t are right where the columns before k, and column k above row m, were read, of a matrix as the caller
-- has it
abbrev pub IsScanOf : ℕ → List ℤ → List ℤ → List ℕ → ℕ → ℕ → Type 0
IsScanOf n ap ai t k m = IsScan n (naturals ap) (naturals ai) t k m

-- the columns before j were read to their ends, and column j up to the place first
pub record IsReadTo (n : ℕ) (ap ai : List ℤ) (t : List ℕ) (j first : ℕ) : Type 0 where
  pub scan : IsScanOf n ap ai t n j
  pub place : slice_index t j ≡ first

-- behind the diagonal entry of column j, which is its first one, or where it has none at its start
unfoldable pub lower_start : List ℕ → List ℕ → ℕ → ℕ
lower_start ap ai j = cond (nat_lt (slice_index ap j) (slice_index ap (j + 1)) && nat_eq (slice_index ai (slice_index ap j)) j)
    (slice_index ap j + 1) (slice_index ap j)
