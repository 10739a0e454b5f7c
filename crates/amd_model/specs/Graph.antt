-- Graphs of rows: rows are numbers below a size, and an edge joins two different rows. Source: George and Liu 1981.
use Rattle.std.specs.Prelude.{ℕ, Bool, false, ◌≡◌, ◌≤◌}
use Rattle.amd_model.specs.Below.{count_below, sum_below}

-- a number of rows, and which of them are joined
pub record Graph : Type 0 where
  pub size : ℕ
  pub edge : ℕ → ℕ → Bool

-- edges have no direction, join no row with itself, and join only rows below the size
pub record IsGraph (g : Graph) : Type 0 where
  pub symmetric : (v w : ℕ) → g.edge v w ≡ g.edge w v
  pub no_loop : (v : ℕ) → g.edge v v ≡ false
  pub in_size : (v w : ℕ) → g.size ≤ v → g.edge v w ≡ false

-- the number of edges of a row
unfoldable pub degree : Graph → ℕ → ℕ
degree g v = count_below g.size (g.edge v)

-- the number of edges, each counted at the greater one of its rows
unfoldable pub edge_count : Graph → ℕ
edge_count g = sum_below g.size (λ w. count_below w (g.edge w))

-- the sum of the degrees
unfoldable pub degree_sum : Graph → ℕ
degree_sum g = sum_below g.size (degree g)
