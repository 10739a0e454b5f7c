-- The earlier neighbours of a pattern that has no entry above the diagonal, written band by band: of each column in turn
-- those of one band of rows.
use Rattle.std.specs.Prelude.{ℕ, ℤ, List, [], length, ◌≡◌, ◌<◌, ◌≤◌, ◌+◌, cond, nat_lt}
use Rattle.amd_model.specs.Below.{list_below}
use Rattle.amd_words.specs.Words.{num}
use Rattle.amd_workspace.specs.Copying.{is_other}
use Rattle.amd_workspace.specs.Lower.{AreNeighbourCounts, Matrix, IsLower, SpreadsColumns, earlier_below, earlier_of, own_start}

-- the earlier neighbours that are written while a band is: those of the rows before lo all, of the rows before r those up
-- to column j, and of the other rows before hi those before it
unfoldable pub banded : ℕ → List ℤ → List ℤ → ℕ → ℕ → ℕ → ℕ → ℕ → List ℕ
banded n ap ai lo hi j r i = cond (nat_lt i lo) (earlier_of n ap ai i) (cond (nat_lt i r) (earlier_below n ap ai (j + 1) i)
    (cond (nat_lt i hi) (earlier_below n ap ai j i) []))

-- where the own rows of column j that are not before row b stand
abbrev pub own_from : ℕ → List ℤ → List ℤ → ℕ → ℕ → ℕ
own_from n ap ai j b = own_start n ap ai j + length (earlier_of n ap ai j) + length (list_below b (is_other n ap ai j))

-- the part of a column that lies in the band of rows from lo on, before hi: it stands from the word place on, and the
-- list of the column ends before the word stop
pub record BandPart : Type 0 where
  pub lo : ℕ
  pub hi : ℕ
  pub column : ℕ
  pub place : ℕ
  pub stop : ℕ

abbrev pub band_part : ℕ → ℕ → ℕ → ℕ → ℕ → BandPart
band_part lo hi j place stop = record { lo = lo; hi = hi; column = j; place = place; stop = stop }

-- the part t of a column comes next in its band
pub record IsReadyForPart (m : Matrix) (t : BandPart) (most_word most_cell : ℕ) (next : List ℕ) (iw : List ℤ) : Type 0 where
  pub lower : IsLower m.n m.ap m.ai
  pub row : t.column < t.hi
  pub band : t.lo ≤ t.hi
  pub rows_in : t.hi ≤ m.n
  pub from : t.place ≡ own_from m.n m.ap m.ai t.column t.lo
  pub end : t.stop ≡ own_start m.n m.ap m.ai (t.column + 1)
  pub room : own_start m.n m.ap m.ai m.n ≤ length iw
  pub rows : m.n ≤ most_word
  pub places : length iw ≤ most_cell
  pub before : SpreadsColumns m.n m.ap m.ai (banded m.n m.ap m.ai t.lo t.hi t.column t.lo) next iw

-- the rows before lo have all their earlier neighbours, and the others none
unfoldable pub spread_to : ℕ → List ℤ → List ℤ → ℕ → ℕ → List ℕ
spread_to n ap ai lo i = cond (nat_lt i lo) (earlier_of n ap ai i) []

-- the rows of each column that are not before a bound of its own stand from its head on
pub record HasHeads (m : Matrix) (bound : ℕ → ℕ) (heads : List ℕ) : Type 0 where
  pub long : length heads ≡ m.n
  pub each : (j : ℕ) → j < m.n → num heads j ≡ own_from m.n m.ap m.ai j (bound j)

-- the rows before lo have all their earlier neighbours, and those before hi come next
pub record IsReadyForBand (m : Matrix) (lo hi : ℕ) (degrees : List ℕ) (most_word most_cell : ℕ) (next : List ℕ) (iw : List ℤ)
    (heads : List ℕ) : Type 0 where
  pub lower : IsLower m.n m.ap m.ai
  pub band : lo ≤ hi
  pub rows_in : hi ≤ m.n
  pub counts : AreNeighbourCounts m.n m.ap m.ai degrees
  pub room : own_start m.n m.ap m.ai m.n ≤ length iw
  pub rows : m.n ≤ most_word
  pub places : length iw ≤ most_cell
  pub stand : HasHeads m (λ j. lo) heads
  pub before : SpreadsColumns m.n m.ap m.ai (spread_to m.n m.ap m.ai lo) next iw
