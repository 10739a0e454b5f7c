-- The pattern of a column form whose numbers are known to be counts.
use Rattle.std.specs.Prelude.{◌+◌, ◌||◌, ◌&&◌, ℕ, ℤ, Bool, not, nat_eq, nat_le, nat_lt, List, map, slice_index}
use Rattle.std.specs.Prelude.{unsigned_abs}
use Rattle.amd_model.specs.Below.{any_below}
use Rattle.amd_model.specs.Graph.{Graph}

-- the counts that the numbers are, where each of them is one
abbrev pub naturals : List ℤ → List ℕ
naturals xs = map unsigned_abs xs

-- row i stands at a place from the start of column j on, before the place limit
unfoldable pub is_before : List ℕ → List ℕ → ℕ → ℕ → ℕ → Bool
is_before ap ai limit i j = any_below limit (λ q. nat_le (slice_index ap j) q && nat_eq (slice_index ai q) i)

-- row i stands in column j
unfoldable pub is_entry : ℕ → List ℕ → List ℕ → ℕ → ℕ → Bool
is_entry n ap ai i j = nat_lt j n && is_before ap ai (slice_index ap (j + 1)) i j

-- two different rows of which one stands in the column of the other
unfoldable pub is_edge : ℕ → List ℕ → List ℕ → ℕ → ℕ → Bool
is_edge n ap ai i j = not (nat_eq i j) && (is_entry n ap ai i j || is_entry n ap ai j i)

-- the graph of the pattern
abbrev pub count_graph : ℕ → List ℕ → List ℕ → Graph
count_graph n ap ai = record { size = n; edge = is_edge n ap ai }
