-- What the factor needs under an order.
use Rattle.std.specs.Prelude.{ℕ, zero, suc, Option, List, [], ◌∷◌, ◌++◌, map, pos}
use Rattle.amd_factor.specs.Counted.{IsCountsOf}
use Rattle.amd_factor.specs.declared.needs.Need.{Need}

-- what the factor of a matrix needs under the order p
pub record IsNeedUnder (n : ℕ) (ap ai p : List ℕ) (need : Need) : Type 0 where
  pub sizes : List ℕ
  pub parent : List (Option ℕ)
  pub counted : IsCountsOf (pos n) (map pos ap) (map pos ai) (map pos p) sizes parent need

-- the rows below n, as they stand
abbrev pub standing_rows : ℕ → List ℕ
standing_rows zero = []
standing_rows (suc k) = standing_rows k ++ k ∷ []
