-- The fill of the exact factor in a square of cells.
use Rattle.std.specs.Prelude.{◌≢◌, ℕ, true, List, [], Contains, map, pos, slice_index, slice_index_or}
use Rattle.amd_model.specs.Factor.{IsFactor}
use Rattle.amd_model.specs.Input.Pattern.{graph_of}
use Rattle.amd_report.specs.declared.grids.Grid.{Grid}
use Rattle.amd_report.specs.Fills.{ShowsFill}
use Rattle.amd_report.specs.Grids.{IsSquareFor}
use Rattle.amd_factor.specs.Orders.{Order, Permutes}

-- place j is fill in the column of place k: an entry of the factor, whose row no edge joins with that of the column
abbrev pub IsFactorFill : Order → List (List ℕ) → ℕ → ℕ → Type 0
IsFactorFill o columns k j = Contains (slice_index_or columns k []) j ×
    (o.graph.edge (slice_index o.rows k) (slice_index o.rows j) ≢ true)

-- an order of the rows of a matrix
abbrev pub matrix_order : ℕ → List ℕ → List ℕ → List ℕ → Order
matrix_order n ap ai rows = record { graph = graph_of n (map pos ap) (map pos ai); rows = rows }

-- of the places of a matrix with n rows in the order p exactly the fill of the exact factor is marked, and its mirrors
pub record DrawsFill {A : Type 0} (g : Grid A) (n : ℕ) (ap ai p : List ℕ) : Type 0 where
  pub square : IsSquareFor g n
  pub order : List ℕ
  pub permutes : Permutes n (map pos p) order
  pub columns : List (List ℕ)
  pub factor : IsFactor (graph_of n (map pos ap) (map pos ai)) order columns
  pub shows : ShowsFill g n (IsFactorFill (matrix_order n ap ai order) columns)
