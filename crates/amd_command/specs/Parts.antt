-- What stands in the texts beside the order: the pattern of the factor, and the elimination tree.
use Rattle.std.specs.Prelude.{◌≡◌, ℕ, Option, List, ◌++◌, codes, length, map, pos}
use Rattle.amd_report.specs.Patterns.{matrix_text}
use Rattle.amd_report.specs.Texts.{supernode_lines, tree_lines}
use Rattle.amd_factor.specs.Counted.{IsCountsOf}
use Rattle.amd_factor.specs.Factors.{IsFactorOf}
use Rattle.amd_factor.specs.Supernodes.{IsSupernodesOf}
use Rattle.amd_factor.specs.declared.needs.Need.{Need}

-- the text is a matrix file with the pattern of the factor under the order p
pub record TellsFactor (n : ℕ) (ap ai p text : List ℕ) : Type 0 where
  pub ptr : List ℕ
  pub rows : List ℕ
  pub parents : List (Option ℕ)
  pub factor : IsFactorOf (pos n) (map pos ap) (map pos ai) (map pos p) ptr rows parents
  pub tells : text ≡ matrix_text n ptr rows

-- the parents of the columns of the factor under the order p
pub record AreParentsUnder (n : ℕ) (ap ai p : List ℕ) (parents : List (Option ℕ)) : Type 0 where
  pub sizes : List ℕ
  pub need : Need
  pub counted : IsCountsOf (pos n) (map pos ap) (map pos ai) (map pos p) sizes parents need

-- the lines of the elimination tree, and those of its supernodes
abbrev pub forest_text : List (Option ℕ) → List ℕ → List ℕ → List (Option ℕ) → List ℕ
forest_text parents first ptr over =
    codes "% the parent of each column, 0 for a root\n" ++ tree_lines parents
    ++ codes "% of each supernode its first and its last column, its parent or 0, " ++ codes "and its rows below the block\n"
    ++ supernode_lines first ptr over (length over)

-- the text is the elimination tree under the order p, and the supernodes of the factor
pub record TellsTree (n : ℕ) (ap ai p text : List ℕ) : Type 0 where
  pub parents : List (Option ℕ)
  pub are_parents : AreParentsUnder n ap ai p parents
  pub first : List ℕ
  pub ptr : List ℕ
  pub rows : List ℕ
  pub over : List (Option ℕ)
  pub supernodes : IsSupernodesOf (pos n) (map pos ap) (map pos ai) (map pos p) first ptr rows over
  pub tells : text ≡ forest_text parents first ptr over
