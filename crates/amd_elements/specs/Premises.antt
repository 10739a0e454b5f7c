-- What the parts of making an element ask of a workspace. The greatest number of a word, of a place and of a cell are
-- given where something is to be written.
use Rattle.std.specs.Prelude.{ℕ, ℤ, pos, true, false, List, ◌≡◌, ◌<◌, ◌≤◌, ◌+◌, ◌-◌, ◌^◌, ◌⊎◌, length, sum_by, unsigned_abs}
use Rattle.amd_model.specs.Quotient.{has}
use Rattle.amd_words.specs.Words.{num, word, is_place, start, size_of, in_front, classes, rows, Names}
use Rattle.amd_lists.specs.Lengths.{AreWide}
use Rattle.amd_lists.specs.Spans.{IsSpan}
use Rattle.amd_lists.specs.Layout.{has_list, elements_in, Layout}
use Rattle.amd_lists.specs.Workspaces.{Workspace}
use Rattle.amd_elements.specs.Element.{grown, front_of, ListsLaid}
use Rattle.amd_elements.specs.Compaction.{Spaced}
use Rattle.amd_elements.specs.Pivots.{own_front, built_front, HasElements}

-- the list of the class me is one of those laid in the workspace, and no class is marked
pub record IsPivot (me : ℕ) (p : Workspace) : Type 0 where
  pub lengths : (length p.pe ≡ length p.nv) × (length p.e_len ≡ length p.nv) × (length p.len ≡ length p.nv)
  pub end : p.free ≤ length p.iw
  pub laid : Layout (length p.nv) p.iw p.pe p.e_len p.len p.free
  pub row : (me < length p.nv) × (0 < size_of p.nv me)
  pub listed : has_list p.pe p.len me ≡ true
  pub clear : (j : ℕ) → in_front p.nv j ≡ false

-- a pivot that lists no element, whose front is small enough for a mark
pub record CanBeginOwn (most_place me : ℕ) (p : Workspace) : Type 0 where
  pub pivot : IsPivot me p
  pub count : word p.e_len me ≡ pos 0
  pub few : sum_by (size_of p.nv) (own_front p me) + 2 ≤ most_place

-- a pivot that may list elements, whose new element may have room behind all lists
pub record CanFit (most_place me : ℕ) (p : Workspace) : Type 0 where
  pub pivot : IsPivot me p
  pub wide : AreWide most_place (length p.nv) p.iw
  pub count : is_place (word p.e_len me) ≡ true
  pub elements : (e : ℕ) → has (elements_in p.iw p.pe p.e_len me) e ≡ true → has_list p.pe p.len e ≡ true

-- a pivot that lists elements, whose new element has room behind all lists
pub record CanMakeElement (most_place most_cell me : ℕ) (p : Workspace) : Type 0 where
  pub pivot : IsPivot me p
  pub counters : length p.w ≡ length p.nv
  pub wide : AreWide most_place (length p.nv) p.iw
  pub cells : length p.iw ≤ most_cell
  pub count : is_place (word p.e_len me) ≡ true
  pub elements : HasElements me p
  pub fits : p.free + length (built_front p me) ≤ length p.iw
  pub few : sum_by (size_of p.nv) (built_front p me) + 2 ≤ most_place

-- the lists around the class me, which lists n_elements elements, stand before `free`
pub record HasListsAround (me n_elements : ℕ) (iw nv pe : List ℤ) (len : List ℕ) (free : ℕ) : Type 0 where
  pub lengths : (length pe ≡ length nv) × (length len ≡ length nv)
  pub elements : n_elements ≤ num len me
  pub laid : ListsLaid iw pe len (length nv) free me n_elements

-- so they do, and no class is marked
pub record IsAround (me n_elements : ℕ) (iw nv pe : List ℤ) (len : List ℕ) (free : ℕ) : Type 0 where
  pub lists : HasListsAround me n_elements iw nv pe len free
  pub pivot : (me < length nv) × (0 < size_of nv me)
  pub clear : (j : ℕ) → in_front nv j ≡ false

-- and there is room for the list of the new element from `free` on
pub record CanBuild (me n_elements : ℕ) (iw nv pe : List ℤ) (len : List ℕ) (free : ℕ) : Type 0 where
  pub around : IsAround me n_elements iw nv pe len free
  pub end : free ≤ length iw
  pub fits : free + length (front_of iw nv pe len me n_elements) ≤ length iw
  pub few : sum_by (size_of nv) (front_of iw nv pe len me n_elements) < 2 ^ 63

-- count words stand before the list that is gathered from `start` to `free`, or behind it; its rows are those of the
-- front so far, and there is room for what is added to them
pub record CanGather (iw nv : List ℤ) (from count start free total : ℕ) : Type 0 where
  pub span : IsSpan (length nv) iw from count
  pub apart : (from + count ≤ start) ⊎ (free ≤ from)
  pub order : start ≤ free
  pub made : Names (length nv) iw start (free - start)
  pub known : (j : ℕ) → has (rows iw start (free - start)) j ≡ true → in_front nv j ≡ true
  pub total_is : total ≡ sum_by (size_of nv) (rows iw start (free - start))
  pub fits : start + length (grown iw nv start free (classes nv (rows iw from count))) ≤ length iw
  pub few : sum_by (size_of nv) (grown iw nv start free (classes nv (rows iw from count))) < 2 ^ 63

-- count words name elements, which the row me can absorb
pub record CanAbsorb (most_place me : ℕ) (iw pe : List ℤ) (w : List ℕ) (from count : ℕ) : Type 0 where
  pub span : IsSpan (length pe) iw from count
  pub lengths : length w ≡ length pe
  pub small : me + 2 ≤ most_place

-- the words from one place to another can be the list of the row me, with so many rows
pub record CanSettle (most_place most_cell me from end total : ℕ) (pe e_len : List ℤ) (len : List ℕ) : Type 0 where
  pub row : (me < length pe) × (me < length e_len) × (me < length len)
  pub order : (from ≤ end) × (from ≤ most_place)
  pub few : total + 2 ≤ most_place
  pub fits : end - from ≤ most_cell

-- the list of the row j can lend its first word to a mark, and that word can stand in place of its start
pub record CanMark (most_word most_place j : ℕ) (iw pe : List ℤ) : Type 0 where
  pub row : j < length pe
  pub small : (j + 2 ≤ most_word) × (most_word ≤ most_place)
  pub is_one : is_place (word pe j) ≡ true
  pub inside : start pe j < length iw

-- the list of the row j, whose first word is its start, can move down
pub record CanMove (most_word most_place j : ℕ) (iw pe : List ℤ) (from to count : ℕ) : Type 0 where
  pub row : j < length pe
  pub first : unsigned_abs (word pe j) ≤ most_word
  pub some : 0 < count
  pub inside : from + count ≤ length iw
  pub down : to ≤ from
  pub small : to ≤ most_place

-- all lists can move down
pub record CanCompact (most_word most_place : ℕ) (iw pe : List ℤ) (len : List ℕ) (free : ℕ) : Type 0 where
  pub lengths : length pe ≡ length len
  pub wide : AreWide most_place (length len) iw
  pub words : (length len + 2 ≤ most_word) × (most_word ≤ most_place)
  pub fits : (k : ℕ) → k < free → unsigned_abs (word iw k) ≤ most_word
  pub end : free ≤ length iw
  pub layout : Spaced iw pe len free
