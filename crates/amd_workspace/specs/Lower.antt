-- The lists of a pattern that has no entry above the diagonal: the list of a row is its earlier neighbours, rising, and
-- then its own column below the diagonal.
use Rattle.std.specs.Prelude.{ℕ, ℤ, Bool, true, List, [], length, pos, ◌≡◌, ◌<◌, ◌≤◌, ◌+◌, ◌&&◌, nat_lt}
use Rattle.amd_model.specs.Below.{list_below}
use Rattle.amd_model.specs.Input.Columns.{IsColumnForm, IsSorted}
use Rattle.amd_model.specs.Input.Pattern.{graph_of, is_pair}
use Rattle.amd_model.specs.Quotient.{starting_list}
use Rattle.amd_edges.specs.Visits.{AreCounts, start_of}
use Rattle.amd_words.specs.Words.{num, rows}
use Rattle.amd_workspace.specs.Copying.{is_other, HoldRows}

-- the numbers of a matrix that a function is not given
pub record Matrix : Type 0 where
  pub n : ℕ
  pub ap : List ℤ
  pub ai : List ℤ

-- no row stands above the diagonal
abbrev pub IsLower : ℕ → List ℤ → List ℤ → Type 0
IsLower n ap ai = (i j : ℕ) → is_pair n ap ai i j ≡ true → j ≤ i

-- a column form of n sorted columns whose rows are not above the diagonal
pub record IsLowerForm (n : ℕ) (ap ai : List ℤ) : Type 0 where
  pub form : IsColumnForm (pos n) n ap ai
  pub sorted : IsSorted n ap ai
  pub lower : IsLower n ap ai

-- row i stands in column x, which is before it
unfoldable pub is_earlier : ℕ → List ℤ → List ℤ → ℕ → ℕ → Bool
is_earlier n ap ai i x = nat_lt x i && is_pair n ap ai i x

-- the earlier neighbours of row i, and the other rows of its column
abbrev pub earlier_of : ℕ → List ℤ → List ℤ → ℕ → List ℕ
earlier_of n ap ai i = list_below n (is_earlier n ap ai i)

abbrev pub own_of : ℕ → List ℤ → List ℤ → ℕ → List ℕ
own_of n ap ai i = list_below n (is_other n ap ai i)

-- where the list of row i starts
abbrev pub own_start : ℕ → List ℤ → List ℤ → ℕ → ℕ
own_start n ap ai i = start_of (graph_of n ap ai) i

-- the numbers of neighbours of all rows
abbrev pub AreNeighbourCounts : ℕ → List ℤ → List ℤ → List ℕ → Type 0
AreNeighbourCounts n ap ai degrees = AreCounts (graph_of n ap ai) ((graph_of n ap ai).edge) degrees

-- each word is a row, and the lists of all rows stand, one after another
abbrev pub HoldsLists : ℕ → List ℤ → List ℤ → List ℕ → List ℤ → Type 0
HoldsLists n ap ai degrees iw = HoldRows n iw × ((i : ℕ) → i < n →
    rows iw (own_start n ap ai i) (num degrees i) ≡ starting_list n (is_pair n ap ai) i)

-- each word is a row, and in the lists of the first m rows the own column stands behind the room for earlier neighbours
pub record HoldsOwn (n : ℕ) (ap ai : List ℤ) (m : ℕ) (iw : List ℤ) : Type 0 where
  pub words : HoldRows n iw
  pub own : (i : ℕ) → i < m → rows iw (own_start n ap ai i + length (earlier_of n ap ai i)) (length (own_of n ap ai i))
      ≡ own_of n ap ai i

-- and in the lists of the first m rows the first earlier neighbours are written, and next is behind them
pub record SpreadsFirst (n : ℕ) (ap ai : List ℤ) (m : ℕ) (early : ℕ → List ℕ) (next : List ℕ) (iw : List ℤ) : Type 0 where
  pub held : HoldsOwn n ap ai m iw
  pub long : length next ≡ n
  pub ends : (i : ℕ) → i < n → num next i ≡ own_start n ap ai i + length (early i)
  pub first : (i : ℕ) → i < n → rows iw (own_start n ap ai i) (length (early i)) ≡ early i

-- the same in all lists
abbrev pub SpreadsColumns : ℕ → List ℤ → List ℤ → (ℕ → List ℕ) → List ℕ → List ℤ → Type 0
SpreadsColumns n ap ai early next iw = SpreadsFirst n ap ai n early next iw

-- the lists of the first m rows stand in the words, which end there, and no other row has an earlier neighbour yet
pub record LaysRows (n : ℕ) (ap ai : List ℤ) (m : ℕ) (early : ℕ → List ℕ) (next : List ℕ) (iw : List ℤ) : Type 0 where
  pub few : m ≤ n
  pub long : length iw ≡ own_start n ap ai m
  pub none : (a : ℕ) → m ≤ a → early a ≡ []
  pub most : (a : ℕ) → a < n → length (early a) ≤ length (earlier_of n ap ai a)
  pub spreads : SpreadsFirst n ap ai m early next iw

-- the earlier neighbours before row j
abbrev pub earlier_below : ℕ → List ℤ → List ℤ → ℕ → ℕ → List ℕ
earlier_below n ap ai j i = list_below j (is_earlier n ap ai i)

-- row j comes next, whose list ends before the word stop; the lists of the first m rows are laid, those of the rows of its
-- column among them; and both widths hold what comes
pub record IsReadyForColumn (x : Matrix) (m j stop most_word most_cell : ℕ) (next : List ℕ) (iw : List ℤ) : Type 0 where
  pub lower : IsLower x.n x.ap x.ai
  pub few : m ≤ x.n
  pub row : j < m
  pub within : (i : ℕ) → is_pair x.n x.ap x.ai i j ≡ true → i < m
  pub end : stop ≡ own_start x.n x.ap x.ai (j + 1)
  pub room : own_start x.n x.ap x.ai m ≤ length iw
  pub rows : x.n ≤ most_word
  pub places : length iw ≤ most_cell
  pub before : SpreadsFirst x.n x.ap x.ai m (earlier_below x.n x.ap x.ai j) next iw

-- the own columns of all rows are written, and no earlier neighbour yet
pub record HasColumns (m : Matrix) (degrees : List ℕ) (most_word most_cell : ℕ) (next : List ℕ) (iw : List ℤ) : Type 0 where
  pub lower : IsLower m.n m.ap m.ai
  pub counts : AreNeighbourCounts m.n m.ap m.ai degrees
  pub room : own_start m.n m.ap m.ai m.n ≤ length iw
  pub rows : m.n ≤ most_word
  pub places : length iw ≤ most_cell
  pub before : SpreadsColumns m.n m.ap m.ai (earlier_below m.n m.ap m.ai 0) next iw

-- the words are empty and have room for the lists and a word for each row more, and next says where each list starts
pub record IsReadyForLists (n : ℕ) (ap ai : List ℤ) (room most_word most_cell capacity : ℕ) (next : List ℕ)
    (iw : List ℤ) : Type 0 where
  pub input : IsLowerForm n ap ai
  pub some : 0 < n
  pub enough : own_start n ap ai n + n ≤ room
  pub rows : n ≤ most_word
  pub places : room ≤ most_cell
  pub fits : room ≤ capacity
  pub empty : length iw ≡ 0
  pub long : length next ≡ n
  pub starts : (i : ℕ) → i < n → num next i ≡ own_start n ap ai i
