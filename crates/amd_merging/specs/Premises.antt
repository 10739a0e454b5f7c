-- What merging the classes of a front and placing those that are left ask of a workspace. Where something is to be
-- written, what can be written at most is given: most_word as a row or a size, most_place as a word of pe or e_len,
-- and most_cell as a cell.
use Rattle.std.specs.Prelude.{ℕ, ℤ, true, List, ◌≡◌, ◌≢◌, ◌<◌, ◌≤◌, ◌+◌, length}
use Rattle.amd_model.specs.Quotient.{has}
use Rattle.amd_round_laws.specs.Rounds.{alike_in}
use Rattle.amd_words.specs.Sides.{nexts, lasts}
use Rattle.amd_words.specs.Words.{num, word, is_place, size_of, in_front, classes, rows}
use Rattle.amd_lists.specs.Chains.{Chain}
use Rattle.amd_lists.specs.Layout.{variables_in}
use Rattle.amd_lists.specs.Lengths.{row_count}
use Rattle.amd_merging.specs.Classes.{Lists, Classes, Placing}
use Rattle.amd_merging.specs.FrontLists.{IsList, LongToMerge, LongToPlace, AreHeads, CanPlace, HasListsByBound}
use Rattle.amd_lists.specs.Sizes.{bucket_count}
use Rattle.amd_merging.specs.Merging.{bucket, kept_of, IsRenewed, AreApart, AreRenewed, IsReady}
use Rattle.amd_merging.specs.Restoring.{marked_in, IsPlaceable}
use Rattle.amd_merging.specs.declared.restoring.Front.{Front}

-- rows are small enough for what is written: for sizes, for links, and for cells. Where no link is written, the bound of
-- sizes stands in its place
abbrev pub AreSmall : ℕ → ℕ → ℕ → ℕ → Type 0
AreSmall most_word most_place most_cell n = (n + 2 ≤ most_word) × (n + 2 ≤ most_place) × (n ≤ most_cell)

-- the links from head on lead through classes, which can be asked how many words and elements they have
pub record CanMeet (e_len : List ℤ) (len : List ℕ) (sides : List (ℕ × ℕ)) (head : ℕ) : Type 0 where
  pub lengths : (length e_len ≡ row_count sides) × (length len ≡ row_count sides)
  pub chain : Chain (row_count sides) (nexts sides) head (bucket (nexts sides) head)
  pub members : (j : ℕ) → has (bucket (nexts sides) head) j ≡ true → is_place (word e_len j) ≡ true

-- the links from head on lead through classes whose lists were renewed
pub record CanWalk (p : Lists) (w : List ℕ) (sides : List (ℕ × ℕ)) (head : ℕ) : Type 0 where
  pub lengths : (length p.pe ≡ length w) × (length p.e_len ≡ length w) × (length p.len ≡ length w) ×
      (row_count sides ≡ length w)
  pub chain : Chain (row_count sides) (nexts sides) head (bucket (nexts sides) head)
  pub members : (j : ℕ) → has (bucket (nexts sides) head) j ≡ true → IsRenewed (length w) p.iw p.pe p.e_len p.len j

-- so they do, and the class i can be compared with each of these: those that are alike have its key
pub record CanFind (most_cell flag i : ℕ) (p : Lists) (w : List ℕ) (sides : List (ℕ × ℕ)) (head : ℕ) : Type 0 where
  pub walk : CanWalk p w sides head
  pub here : IsRenewed (length w) p.iw p.pe p.e_len p.len i
  pub apart : (j : ℕ) → has (bucket (nexts sides) head) j ≡ true → AreApart p.iw p.pe p.e_len p.len i j
  pub keys : (j : ℕ) → has (bucket (nexts sides) head) j ≡ true →
      alike_in (kept_of p.iw p.pe p.e_len) (variables_in p.iw p.pe p.e_len p.len) i j ≡ true →
      num (lasts sides) j ≡ num (lasts sides) i
  pub under : (x : ℕ) → num w x < flag
  pub fits : flag ≤ most_cell

-- the rows of one class of the front can be added to those of another one
pub record CanAdd (most_word i j : ℕ) (nv : List ℤ) : Type 0 where
  pub inside : (i < length nv) × (j < length nv)
  pub other : j ≢ i
  pub marked : (in_front nv i ≡ true) × (in_front nv j ≡ true)
  pub small : size_of nv j + size_of nv i ≤ most_word

-- the class i can be looked for in its bucket, and merged or put there
pub record CanMergeOne (most_word most_place most_cell count i flag : ℕ) (p : Classes) : Type 0 where
  pub lengths : LongToMerge (length p.next) p
  pub short : AreSmall most_word most_place most_cell (length p.next)
  pub ready : IsReady (length p.next) count i p
  pub under : (x : ℕ) → num p.w x < flag
  pub room : flag + 1 ≤ most_cell

-- so can each class of a front, whose list stands in count words; buckets are empty
pub record CanMergeFront (most_word most_place most_cell from count flag : ℕ) (p : Classes) : Type 0 where
  pub lengths : LongToMerge (length p.next) p
  pub short : AreSmall most_word most_place most_cell (length p.next)
  pub front : IsList (length p.next) p.iw from count
  pub few : count ≤ length p.next
  pub classes_are : AreRenewed (length p.next) p (classes p.nv (rows p.iw from count))
  pub under : (x : ℕ) → num p.w x < flag
  pub room : flag + count ≤ most_cell
  pub empty : (b : ℕ) → b < bucket_count (length p.next) → length p.next ≤ num p.hash b

-- the class i can be placed by its new bound
pub record CanPlaceClass (most_word most_cell : ℕ) (front : Front) (i : ℕ) (p : Placing) : Type 0 where
  pub lengths : (length p.nv ≡ length p.next) × (length p.degree ≡ length p.next) × (length p.head ≡ length p.next) ×
      (length p.hash ≡ bucket_count (length p.next))
  pub short : AreSmall most_word most_word most_cell (length p.next)
  pub row : i < length p.next
  pub marked : in_front p.nv i ≡ true
  pub class : IsPlaceable (length p.next) front.border p.nv p.degree p.last i
  pub order : (front.border ≤ front.left) × (front.left ≤ length p.next)

-- so can each class that is left of a front
pub record CanRestore (most_word most_cell : ℕ) (front : Front) (iw : List ℤ) (p : Placing) : Type 0 where
  pub lengths : LongToPlace (length p.next) p
  pub short : AreSmall most_word most_word most_cell (length p.next)
  pub front_is : IsList (length p.next) iw front.from front.count
  pub classes_are : CanPlace (length p.next) front.border p.nv p.degree p.last (rows iw front.from front.count)
  pub order : (front.border ≤ front.left) × (front.left ≤ length p.next)
  pub heads : AreHeads (length p.next) front.count (marked_in p.nv (rows iw front.from front.count)) p.hash p.last
  pub linked : HasListsByBound (length p.next) (rows iw front.from front.count) p.head p.next p.last p.degree
