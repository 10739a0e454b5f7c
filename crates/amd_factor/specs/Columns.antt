-- The columns of a factor in vectors, one after another.
use Rattle.std.specs.Prelude.{ℕ, ◌≡◌, ◌<◌, ◌+◌, List, [], ◌∷◌, Option, None, Some, map, length, slice_index}
use Rattle.std.specs.Prelude.{slice_index_or, slice_range}
use Rattle.amd_model.specs.Factor.{IsFactor, needed}
use Rattle.amd_model.specs.Figures.{entries}
use Rattle.amd_model.specs.Graph.{Graph}
use Rattle.amd_factor.specs.Orders.{Order}

-- the first entry of a column, or none
abbrev pub first_of : List ℕ → Option ℕ
first_of [] = None
first_of (j ∷ rest) = Some j

-- the entries of column k stand in rows from place ptr[k] on, before ptr[k + 1], and nothing else stands there; the
-- parent of a column is its first entry
pub record HoldColumns (columns : List (List ℕ)) (ptr rows : List ℕ) (parent : List (Option ℕ)) : Type 0 where
  pub pointers : length ptr ≡ length columns + 1
  pub first : slice_index ptr 0 ≡ 0
  pub ends : (k : ℕ) (d : List ℕ) → k < length columns → slice_index ptr (k + 1) ≡ slice_index ptr k
      + length (slice_index_or columns k d)
  pub total : slice_index ptr (length columns) ≡ length rows
  pub each : (k : ℕ) (d : List ℕ) → k < length columns →
      slice_range rows (slice_index ptr k) (slice_index ptr (k + 1)) ≡ slice_index_or
      columns k d
  pub parents : parent ≡ map first_of columns

-- they hold the factor of the graph under the order p of its rows
pub record HoldFactor (g : Graph) (p ptr rows : List ℕ) (parent : List (Option ℕ)) : Type 0 where
  pub columns : List (List ℕ)
  pub factor : IsFactor g p columns
  pub holds : HoldColumns columns ptr rows parent

-- the factor has more entries than that
pub record PassesRoom (g : Graph) (p : List ℕ) (room : ℕ) : Type 0 where
  pub columns : List (List ℕ)
  pub factor : IsFactor g p columns
  pub more : room < needed entries columns

-- the lists in which the factor of an order is made have a place for each row, and one pointer more
pub record FactorSizes (o : Order) (ptr : List ℕ) (parent : List (Option ℕ)) (mark : List ℕ) (link : List (Option ℕ))
    (new : List ℕ) : Type 0 where
  pub pointers : length ptr ≡ length o.rows + 1
  pub parents : length parent ≡ length o.rows
  pub marks : length mark ≡ length o.rows
  pub links : length link ≡ length o.rows
  pub fresh : length new ≡ length o.rows
