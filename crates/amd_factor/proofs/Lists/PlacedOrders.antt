-- A column form under an order whose places are known: its graph, and the lists of neighbours that were made by these.
use Rattle.std.proofs.Common.{ℕ, ℤ, ◌≡◌, List, length, subst, sym}
use Rattle.amd_model.specs.Graph.{IsGraph}
use Rattle.amd_model.specs.Input.Pattern.{graph_of}
use Rattle.amd_model.proofs.Patterns.DegreeSums.{pattern_graph}
use Rattle.amd_factor.specs.Neighbours.{HasEarlier, HasLater}
use Rattle.amd_factor.specs.Orders.{Order}
use Rattle.amd_factor.specs.Places.{ArePlaces}
use Rattle.amd_factor.specs.Within.{IsPlaced}

module _ (o : Order) (n : ℕ) (ap' ai : List ℤ) (places : List ℕ) (h : IsPlaced o n ap' ai places) where
  pub is_graph : IsGraph o.graph
  is_graph = subst IsGraph (sym h.graph) (pattern_graph n ap' ai)

  pub rows_long : length o.rows ≡ n
  rows_long = h.listed.listing.places

  pub earlier_lists : (starts earlier : List ℕ) → ((rows : List ℕ) → ArePlaces n rows places →
      HasEarlier (record { graph = graph_of n ap' ai; rows = rows }) starts earlier) → HasEarlier o starts earlier
  earlier_lists starts earlier made =
      subst (λ g. HasEarlier (record { graph = g; rows = o.rows }) starts earlier) (sym h.graph) (made o.rows h.listed)

  pub later_lists : (starts later : List ℕ) → ((rows : List ℕ) → ArePlaces n rows places →
      HasLater (record { graph = graph_of n ap' ai; rows = rows }) starts later) → HasLater o starts later
  later_lists starts later made =
      subst (λ g. HasLater (record { graph = g; rows = o.rows }) starts later) (sym h.graph) (made o.rows h.listed)
