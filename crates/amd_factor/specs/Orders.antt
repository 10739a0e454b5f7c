-- An order of the rows of a graph, and when a list of numbers is one.
use Rattle.std.specs.Prelude.{ℕ, ℤ, pos, ◌≡◌, List, map}
use Rattle.amd_model.specs.Graph.{Graph}
use Rattle.amd_model.specs.Listing.{ListsEachRow}

-- a graph, and an order of its rows: the row at place k is that at place k of the list
pub record Order : Type 0 where
  pub graph : Graph
  pub rows : List ℕ

-- p lists each number below n, once, and is the list rows
pub record Permutes (n : ℕ) (p : List ℤ) (rows : List ℕ) : Type 0 where
  pub listed : p ≡ map pos rows
  pub each : ListsEachRow n rows
