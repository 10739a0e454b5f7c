-- A postorder of the elimination tree of a factor.
use Rattle.std.specs.Prelude.{◌≡◌, ◌<◌, ℕ, Bool, Option, None, Some, List, length, map, pos, replicate, slice_index_or}
use Rattle.amd_model.specs.Listing.{ListsEachRow, ListsTrees, Tree, roots}
use Rattle.amd_postorder.specs.Trees.{link_of, tree_of}
use Rattle.amd_factor.specs.Counted.{IsCountsOf}
use Rattle.amd_factor.specs.declared.needs.Need.{Need}
use Rattle.amd_command.specs.Answers.{lines_of}

-- the columns of a factor as elements of one row each, with these parents; all weigh the same
abbrev pub forest_of : List (Option ℕ) → Tree
forest_of parents =
    tree_of (length parents) (map link_of parents) (replicate (length parents) (pos 1)) (replicate (length parents) (pos 0))

-- each parent is a column behind its children
abbrev pub AreBehind : List (Option ℕ) → Type 0
AreBehind parents =
    (k q : ℕ) → k < length parents → slice_index_or parents k None ≡ Some q → (k < q) × (q < length parents)

-- each column is listed once; each subtree stands in one piece and ends with its root, children and roots rising
pub record IsPostorder (parents : List (Option ℕ)) (columns : List ℕ) : Type 0 where
  pub lists : ListsTrees (forest_of parents) (roots (forest_of parents)) columns
  pub each : ListsEachRow (length parents) columns

-- the columns of the factor under the order p, in a postorder of its elimination tree
pub record IsPostorderUnder (n : ℕ) (ap ai p columns : List ℕ) : Type 0 where
  pub sizes : List ℕ
  pub parents : List (Option ℕ)
  pub need : Need
  pub counted : IsCountsOf (pos n) (map pos ap) (map pos ai) (map pos p) sizes parents need
  pub postorder : IsPostorder parents columns

-- the text has a line for each column of such a postorder, from 0 or from 1 on
pub record TellsPostorder (n : ℕ) (ap ai p : List ℕ) (zero_based : Bool) (text : List ℕ) : Type 0 where
  pub columns : List ℕ
  pub postorder : IsPostorderUnder n ap ai p columns
  pub tells : text ≡ lines_of zero_based columns
