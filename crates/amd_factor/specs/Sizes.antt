-- The numbers of entries of the columns of a factor, and its parents.
use Rattle.std.specs.Prelude.{ℕ, ◌≡◌, ◌+◌, ◌*◌, List, Option, map, length}
use Rattle.amd_model.specs.Factor.{IsFactor}
use Rattle.amd_model.specs.Graph.{Graph, IsGraph}
use Rattle.amd_factor.specs.Columns.{first_of}
use Rattle.amd_factor.specs.Neighbours.{HasEarlier, HasLater}
use Rattle.amd_factor.specs.Orders.{Order}

-- column k of the factor of the graph under the order p of its rows has as many entries as sizes holds at place k, and
-- its parent is the first of them
pub record HoldSizes (g : Graph) (p sizes : List ℕ) (parent : List (Option ℕ)) : Type 0 where
  pub columns : List (List ℕ)
  pub factor : IsFactor g p columns
  pub sizes_are : sizes ≡ map length columns
  pub parents : parent ≡ map first_of columns

-- the lists of the earlier and of the later neighbours of each place, for a graph
pub record AreBothLists (o : Order) (starts earlier later_starts later : List ℕ) : Type 0 where
  pub laws : IsGraph o.graph
  pub before : HasEarlier o starts earlier
  pub behind : HasLater o later_starts later

-- a count has a place for each row in each list that it gives, and its work eight, and five more
pub record HasCountRoom (o : Order) (parent : List (Option ℕ)) (sizes work : List ℕ) : Type 0 where
  pub parents : length parent ≡ length o.rows
  pub sizes_room : length sizes ≡ length o.rows
  pub work_room : length work ≡ 8 * length o.rows + 5
