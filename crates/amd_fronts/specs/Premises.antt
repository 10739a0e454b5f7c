-- What the parts of turning a front over to its element ask of a workspace. The greatest word of a row or a size
-- (most_word), the greatest one of a start or a count (most_place) and the greatest cell are given where something is to
-- be written.
use Rattle.std.specs.Prelude.{ℕ, ℤ, true, false, List, ◌≡◌, ◌<◌, ◌≤◌, ◌+◌, length, sum_by}
use Rattle.amd_model.specs.Quotient.{has, Once}
use Rattle.amd_words.specs.Words.{num, word, is_place, start, size_of, in_front, rows, Names}
use Rattle.amd_lists.specs.Lengths.{HasBounds, HasLists, HasLinks}
use Rattle.amd_lists.specs.Layout.{elements_in, end_of, list_in, Layout, IsPlaced, LosesOne, IsRenewable}
use Rattle.amd_lists.specs.Renewal.{is_kept, is_outside, AreMet}
use Rattle.amd_lists.specs.Workspaces.{Workspace}
use Rattle.amd_fronts.specs.Counts.{IsListed}
use Rattle.amd_fronts.specs.Tallies.{front_at, IsCounted, IsPart}
use Rattle.amd_fronts.specs.TurningLists.{IsFrontList, AreTurning}
use Rattle.amd_fronts.specs.declared.outside.Tally.{Tally}

-- the counter of the element e can lose the rows of a class: it has as many, now or once it starts anew
pub record CanTouch (most_cell : ℕ) (tally : Tally) (degree w : List ℕ) (e : ℕ) : Type 0 where
  pub inside : (e < length w) × (e < length degree)
  pub again : tally.flag ≤ num w e → tally.more ≤ num w e
  pub first : 0 < num w e → tally.more ≤ num degree e
  pub fits : num degree e + tally.flag ≤ most_cell

-- so can that of each element that count words name
pub record CanTouchAll (most_cell : ℕ) (tally : Tally) (iw pe : List ℤ) (degree w : List ℕ) (from count : ℕ) : Type 0
  where
    pub lengths : (length degree ≡ length w) × (length pe ≡ length w)
    pub inside : from + count ≤ length iw
    pub names : Names (length w) iw from count
    pub once : Once (rows iw from count)
    pub again : (e : ℕ) → has (rows iw from count) e ≡ true → tally.flag ≤ num w e → tally.more ≤ num w e
    pub first : (e : ℕ) → has (rows iw from count) e ≡ true → 0 < num w e → tally.more ≤ num degree e
    pub fits : (e : ℕ) → e < length w → num degree e + tally.flag ≤ most_cell

-- the class i, which stands in the list of its bound, can be counted in the front of the pivot me
pub record CanCountClass (most_place most_cell me i : ℕ) (p : Workspace) : Type 0 where
  pub lengths : HasBounds (length p.w) p.pe p.e_len p.nv p.degree
  pub more_lengths : HasLinks (length p.w) p.head p.next p.last
  pub row : (i < length p.w) × (num p.degree i < length p.w)
  pub small : me + 2 ≤ most_place
  pub listed : IsListed p i
  pub again : (e : ℕ) → has (elements_in p.iw p.pe p.e_len i) e ≡ true → p.flag ≤ num p.w e →
      size_of p.nv i ≤ num p.w e
  pub first : (e : ℕ) → has (elements_in p.iw p.pe p.e_len i) e ≡ true → 0 < num p.w e →
      size_of p.nv i ≤ num p.degree e
  pub fits : (e : ℕ) → e < length p.w → num p.degree e + p.flag ≤ most_cell

-- so can each class of the front of the pivot me, while counters are below the flag
pub record CanCountFront (most_place most_cell me : ℕ) (p : Workspace) : Type 0 where
  pub lengths : HasBounds (length p.w) p.pe p.e_len p.nv p.degree × (length p.len ≡ length p.w)
  pub more_lengths : HasLinks (length p.w) p.head p.next p.last
  pub row : me < length p.w
  pub starts : is_place (word p.pe me) ≡ true
  pub inside : end_of p.pe p.len me ≤ length p.iw
  pub small : me + 2 ≤ most_place
  pub front : Names (length p.w) p.iw (start p.pe me) (num p.len me) × Once (front_at p me)
  pub classes : (i : ℕ) → has (front_at p me) i ≡ true → IsCounted (front_at p me) p i
  pub two : 2 ≤ p.flag
  pub under : (e : ℕ) → num p.w e < p.flag
  pub fits : (e : ℕ) → e < length p.w → num p.degree e + p.flag ≤ most_cell
  pub part : IsPart (front_at p me) p

-- the list of the class i can be renewed
pub record CanRenewClass (most_word most_place me i : ℕ) (p : Workspace) : Type 0 where
  pub lengths : HasLists (length p.w) p.pe p.e_len p.len p.nv
  pub narrow : length p.iw ≤ most_place
  pub row : (me < length p.w) × (me ≤ most_word)
  pub placed : IsPlaced (length p.w) p.iw p.pe p.e_len p.len i
  pub loses : LosesOne (is_kept p.w) (is_outside p.nv) p.iw p.pe p.e_len p.len i
  pub met : AreMet p.flag p.w (elements_in p.iw p.pe p.e_len i)

-- the class i of a front can end in the row me
pub record CanRetire (most_place i me : ℕ) (pe e_len nv : List ℤ) : Type 0 where
  pub inside : (i < length pe) × (i < length e_len) × (i < length nv)
  pub small : me + 2 ≤ most_place
  pub marked : in_front nv i ≡ true

-- it can be renewed, or end
pub record CanRenewOrRetire (most_word most_place most_cell me i : ℕ) (p : Workspace) : Type 0 where
  pub list : CanRenewClass most_word most_place me i p
  pub more_lengths : (length p.degree ≡ length p.w) × (length p.last ≡ length p.w)
  pub small : (me + 2 ≤ most_place) × (length p.w ≤ most_cell)
  pub marked : in_front p.nv i ≡ true

-- so can each class of the front of the new element me
pub record CanRenewAll (most_word most_place most_cell me : ℕ) (p : Workspace) : Type 0 where
  pub lengths : HasLists (length p.w) p.pe p.e_len p.len p.nv
  pub more_lengths : (length p.degree ≡ length p.w) × (length p.last ≡ length p.w)
  pub narrow : (length p.iw ≤ most_place) × (length p.w ≤ most_cell)
  pub end : p.free ≤ length p.iw
  pub laid : Layout (length p.w) p.iw p.pe p.e_len p.len p.free
  pub row : (me < length p.w) × (me + 2 ≤ most_place) × (me ≤ most_word)
  pub list : is_place (word p.pe me) ≡ true
  pub apart : has (list_in p.iw p.pe p.len me) me ≡ false
  pub once : Once (list_in p.iw p.pe p.len me)
  pub front : (i : ℕ) → has (list_in p.iw p.pe p.len me) i ≡ true →
      IsRenewable (is_kept p.w) (is_outside p.nv) p.iw p.pe p.e_len p.len i
  pub marked : (i : ℕ) → has (list_in p.iw p.pe p.len me) i ≡ true → in_front p.nv i ≡ true
  pub met : (i : ℕ) → has (list_in p.iw p.pe p.len me) i ≡ true → AreMet p.flag p.w (elements_in p.iw p.pe p.e_len i)
  pub few : sum_by (size_of p.nv) (list_in p.iw p.pe p.len me) ≤ most_word

-- the front of the new element me can be turned over to it
pub record CanTurnFront (most_word most_place most_cell me : ℕ) (p : Workspace) : Type 0 where
  pub lengths : HasBounds (length p.w) p.pe p.e_len p.nv p.degree × (length p.len ≡ length p.w)
  pub more_lengths : HasLinks (length p.w) p.head p.next p.last
  pub narrow : (length p.iw ≤ most_place) × (length p.w ≤ most_cell)
  pub end : p.free ≤ length p.iw
  pub laid : Layout (length p.w) p.iw p.pe p.e_len p.len p.free
  pub row : (me < length p.w) × (me + 2 ≤ most_place) × (me ≤ most_word)
  pub list : IsFrontList me p
  pub front : AreTurning (length p.w) me p
  pub few : sum_by (size_of p.nv) (front_at p me) ≤ most_word
  pub two : (2 ≤ p.flag) × ((e : ℕ) → num p.w e < p.flag)
  pub fits : (e : ℕ) → e < length p.w → num p.degree e + p.flag ≤ most_cell
  pub part : IsPart (front_at p me) p
