-- The permuted matrix.
use Rattle.std.specs.Prelude.{◌≡◌, ◌⊎◌, ℕ, zero, suc, List, [], ◌++◌, map, pos, slice_index}
use Rattle.amd_market.specs.Columns.{HoldsPairs}
use Rattle.amd_report.specs.Patterns.{column_rows, matrix_text}
use Rattle.amd_cli.specs.Valued.{ListsNothing, PlacesText}
use Rattle.amd_factor.specs.Orders.{Permutes}
use Rattle.amd_factor.specs.Places.{ArePlaces}

-- a pair for each row of a column: the place of the row, and that of the column
abbrev pub placed_pairs : List ℕ → ℕ → List ℕ → List (ℕ × ℕ)
placed_pairs places column rows = map (λ row. (slice_index places row, column)) rows

-- the pairs of the first k columns
abbrev pub pairs_up_to : List ℕ → List ℕ → List ℕ → ℕ → List (ℕ × ℕ)
pairs_up_to places ap ai zero = []
pairs_up_to places ap ai (suc k) =
    pairs_up_to places ap ai k ++ placed_pairs places (slice_index places k) (column_rows ap ai k)

-- the second matrix has exactly the entries of the first, each at the places of its row and its column in the order p
pub record IsPermuted (n : ℕ) (ap ai p : List ℕ) (m : ℕ) (bp bi : List ℕ) : Type 0 where
  pub size : m ≡ n
  pub order : List ℕ
  pub permutes : Permutes n (map pos p) order
  pub places : List ℕ
  pub placed : ArePlaces n order places
  pub entries : HoldsPairs n (pairs_up_to places ap ai n) bp bi

-- the text is that of the permuted matrix, as a pattern
pub record IsPatternText (n : ℕ) (ap ai p text : List ℕ) : Type 0 where
  pub size : ℕ
  pub pointers : List ℕ
  pub rows : List ℕ
  pub permuted : IsPermuted n ap ai p size pointers rows
  pub written : text ≡ matrix_text size pointers rows

-- the text has the entries of a text of a matrix with n rows, with their values, each at the places of its row and column
-- in the order p
pub record IsValuedText (n : ℕ) (p given text : List ℕ) : Type 0 where
  pub order : List ℕ
  pub permutes : Permutes n (map pos p) order
  pub places : List ℕ
  pub placed : ArePlaces n order places
  pub written : PlacesText given places text

-- the text is that of the permuted matrix: with the values of the given text, or, where that lists no entries, as a
-- pattern
abbrev pub TellsPermuted : ℕ → List ℕ → List ℕ → List ℕ → List ℕ → List ℕ → Type 0
TellsPermuted n ap ai p given text = IsValuedText n p given text ⊎ (ListsNothing given × IsPatternText n ap ai p text)
