-- What an engine keeps, as functions of a row, a class or an element. An engine reads its own record so, and the laws
-- of a round are proved of these functions, once for all engines.
use Rattle.std.specs.Prelude.{ℕ, Option, List, All, ◌<◌, filter, nat_lt}
use Rattle.amd_types.specs.declared.figures.Figures.{Figures}

-- the variables and the elements that a class lists
pub record ClassLists : Type 0 where
  pub variables : ℕ → List ℕ
  pub elements : ℕ → List ℕ

-- an elimination between two rounds
pub record View : Type 0 where
  -- the number of rows
  pub rows : ℕ
  -- the variables and elements of each class, and the members of each element
  pub lists : ClassLists
  pub members : ℕ → List ℕ
  -- the number of rows of each class, 0 for what is no class; and its bound
  pub size : ℕ → ℕ
  pub bound : ℕ → ℕ
  -- no class has a bound below it
  pub least : ℕ
  -- the number of live rows
  pub live : ℕ
  -- where a row went that no longer represents a class, and the parent of an element
  pub link : ℕ → Option ℕ
  pub parent : ℕ → Option ℕ
  -- the number of rows of the block of each element, 0 for what is no element; and that of block and border
  pub block : ℕ → ℕ
  pub front : ℕ → ℕ
  -- the number of rows held last, and the figures so far
  pub n_dense : ℕ
  pub figures : Figures

-- the number of rows of each class, of the block of each element, and of its block and border
pub record RowCounts : Type 0 where
  pub size : ℕ → ℕ
  pub block : ℕ → ℕ
  pub whole : ℕ → ℕ

abbrev pub counts_of : View → RowCounts
counts_of w = record { size = w.size; block = w.block; whole = w.front }

-- the numbers of a list that name a class: what has no row is none
abbrev pub live_of : (ℕ → ℕ) → List ℕ → List ℕ
live_of size xs = filter (λ j. nat_lt 0 (size j)) xs

-- each number of a list is below n
abbrev pub Below : ℕ → List ℕ → Type 0
Below n xs = All (λ j. j < n) xs
