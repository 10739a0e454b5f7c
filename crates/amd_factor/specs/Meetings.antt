-- The arcs of an order of the rows, place by place in postorder, and where those of a row meet. Source: Gilbert, Ng and
-- Peyton 1994.
use Rattle.std.specs.Prelude.{ℕ, zero, suc, Bool, true, ◌≡◌, ◌≢◌, ◌<◌, ◌≤◌, ◌+◌, ◌-◌, ◌⊎◌, List, length, slice_index}
use Rattle.amd_model.specs.Below.{count_below, sum_below}
use Rattle.amd_count_laws.specs.Rising.{GoesUp}
use Rattle.amd_factor.specs.Orders.{Order}
use Rattle.amd_factor.specs.Ranks.{Above, Measured, Ranked}

-- an order of rows, and its elimination tree: where each place goes up to, the sizes of the subtrees, and the ranks
pub record Scene : Type 0 where
  pub order : Order
  pub up : List ℕ
  pub size : List ℕ
  pub rank : List ℕ

-- an edge joins the rows of place j and of the later place i
pub record Arc (s : Scene) (j i : ℕ) : Type 0 where
  pub later : j < i
  pub most : i < length s.up
  pub edge : s.order.graph.edge (slice_index s.order.rows j) (slice_index s.order.rows i) ≡ true

-- the ranks are those of a tree of the places in which each arc goes up
pub record IsScene (s : Scene) : Type 0 where
  pub places : length s.up ≡ length s.order.rows
  pub goes : GoesUp s.up
  pub measured : Measured s.up s.size
  pub all : slice_index s.size (length s.up) ≡ length s.up + 1
  pub ranked : Ranked s.up s.size s.rank
  pub arcs : (j i : ℕ) → Arc s j i → Above s.up j i

-- the links when the places of ranks below t were linked: each leads to a place over it, or to itself, and leaves out
-- none that was not linked
pub record Links (s : Scene) (t : ℕ) (link : List ℕ) : Type 0 where
  pub room : length link ≡ length s.up + 1
  pub up : (x : ℕ) → x ≤ length s.up → (x ≤ slice_index link x) × (slice_index link x ≤ length s.up) × Above s.up x
      (slice_index link x)
  pub high : (x : ℕ) → x ≤ length s.up → slice_index link x ≡ x → t ≤ slice_index s.rank x
  pub keeps : (x q : ℕ) → x ≤ length s.up → q ≤ length s.up → Above s.up x q → t ≤ slice_index s.rank q → Above s.up
      (slice_index link x) q

-- q is the lowest place over x, or x, whose rank is not below t
pub record IsLowest (s : Scene) (t x q : ℕ) : Type 0 where
  pub most : q ≤ length s.up
  pub over : Above s.up x q
  pub high : t ≤ slice_index s.rank q
  pub lowest : (r : ℕ) → r ≤ length s.up → Above s.up x r → t ≤ slice_index s.rank r → Above s.up q r

-- the arcs from the subtree of place k that were taken lead to a places behind it
pub record CountsTargets (s : Scene) (seen : ℕ → ℕ → Type 0) (k a : ℕ) : Type 0 where
  pub test : ℕ → Bool
  pub marked : (i : ℕ) → i < length s.up → test i ≡ true → (k < i) × (j : ℕ) × Above s.up j k × seen j i
  pub marks : (i j : ℕ) → i < length s.up → k < i → Above s.up j k → seen j i → test i ≡ true
  pub is : count_below (length s.up) test ≡ a

-- the sum of the numbers at the ranks below m
abbrev pub sum_to : List ℕ → ℕ → ℕ
sum_to xs m = sum_below m (λ r. slice_index xs r)

-- the sum of the numbers at the ranks below m, by the sums up to each rank
abbrev pub sum_before : List ℕ → ℕ → ℕ
sum_before sums zero = 0
sum_before sums (suc m) = slice_index sums m

-- the first rank of the subtree of place k
abbrev pub low_of : Scene → ℕ → ℕ
low_of s k = slice_index s.rank k + 1 - slice_index s.size k

-- in the subtree of place k the sum of plus is that of minus and a
abbrev pub Balance : Scene → List ℕ → List ℕ → ℕ → ℕ → Type 0
Balance s plus minus k a = sum_to plus (slice_index s.rank k + 1) + sum_to minus (low_of s k) ≡ sum_to minus
    (slice_index s.rank k + 1)
    + sum_to plus (low_of s k) + a

-- what is known when some arcs were taken: the last one to each place, and at each rank what was added and what was
-- taken
pub record Met (s : Scene) (seen : ℕ → ℕ → Type 0) (last plus minus : List ℕ) : Type 0 where
  pub last_room : length last ≡ length s.up
  pub plus_room : length plus ≡ length s.up + 1
  pub minus_room : length minus ≡ length s.up + 1
  pub none : (i : ℕ) → i < length s.up → slice_index last i ≡ length s.up → (j : ℕ) → seen j i → ⊥
  pub some : (i : ℕ) → i < length s.up → slice_index last i ≢ length s.up → seen (slice_index last i) i ×
      ((j : ℕ) → seen j i → slice_index s.rank j ≤ slice_index s.rank (slice_index last i))
  pub spent : sum_to minus (length s.up + 1) ≡ sum_to plus (length s.up + 1)
  pub columns : (k : ℕ) → k < length s.up → (a : ℕ) × CountsTargets s seen k a × Balance s plus minus k a

-- the arcs from places of ranks below t
abbrev pub Taken : Scene → ℕ → ℕ → ℕ → Type 0
Taken s t j i = Arc s j i × (slice_index s.rank j < t)

-- the arcs from places of ranks below t, and the first u of the list of place j
abbrev pub TakenSome : Scene → ℕ → ℕ → List ℕ → ℕ → ℕ → ℕ → Type 0
TakenSome s t j later u x y = Arc s x y × ((slice_index s.rank x < t) ⊎
    ((x ≡ j) × (w : ℕ) × (w < u) × (y ≡ slice_index later w)))

-- order holds the places by their ranks
pub record IsByRank (s : Scene) (order : List ℕ) : Type 0 where
  pub room : length order ≡ length s.up
  pub each : (t : ℕ) → t < length s.up → (slice_index order t < length s.up) × (slice_index s.rank
      (slice_index order t) ≡ t)
