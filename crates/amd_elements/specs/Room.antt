-- Whether the list of a new element fits behind the lists of a workspace: its classes are met one by one, each takes
-- one place, and the marks that were set for this are taken off again.
use Rattle.std.specs.Prelude.{ℕ, ℤ, true, false, List, ◌++◌, ◌≡◌, ◌≤◌, ◌-◌, ◌||◌, ◌&&◌, not, length, flat_map}
use Rattle.amd_model.specs.Quotient.{has}
use Rattle.amd_round_laws.specs.Rounds.{firsts}
use Rattle.amd_words.specs.Words.{word, size_of, in_front, classes}
use Rattle.amd_lists.specs.Layout.{has_list, Layout, ReadsSame, list_in}
use Rattle.amd_lists.specs.Workspaces.{Workspace}
use Rattle.amd_elements.specs.Element.{elements_at, variables_at}

-- some classes were met: they are in the front now, and each that was not in the front before took one place
pub record Meets (nv : List ℤ) (xs : List ℕ) (left : ℕ) (nv' : List ℤ) (left' : ℕ) : Type 0 where
  pub wide : length nv' ≡ length nv
  pub sizes : (j : ℕ) → size_of nv' j ≡ size_of nv j
  pub front : (j : ℕ) → in_front nv' j ≡ (in_front nv j || has xs j)
  pub left_is : left' ≡ left - length (firsts (in_front nv) xs)

-- some rows have left the front
pub record Unmarks (nv : List ℤ) (xs : List ℕ) (nv' : List ℤ) : Type 0 where
  pub wide : length nv' ≡ length nv
  pub sizes : (j : ℕ) → size_of nv' j ≡ size_of nv j
  pub front : (j : ℕ) → in_front nv' j ≡ (in_front nv j && not (has xs j))

-- what visitors of lists hold after some rows: their classes were met, the rows were unmarked, and they were taken off
-- a number; no word changes
pub record IsMeeting (taken : List ℕ) (iw nv : List ℤ) (left : ℕ) (iw' nv' : List ℤ) (left' : ℕ) : Type 0 where
  pub meets : Meets nv (classes nv taken) left nv' left'
  pub same : iw' ≡ iw

pub record IsUnmarking (taken : List ℕ) (iw nv iw' nv' : List ℤ) : Type 0 where
  pub unmarks : Unmarks nv taken nv'
  pub same : iw' ≡ iw

pub record IsRemainder (taken : List ℕ) (iw nv : List ℤ) (left : ℕ) (iw' nv' : List ℤ) (left' : ℕ) : Type 0 where
  pub left_is : left' ≡ left - length taken
  pub same : (iw' ≡ iw) × (nv' ≡ nv)

-- what the lists of a pivot's elements name, element after element, and then what the pivot's own list names as
-- variables
abbrev pub named_around : List ℤ → List ℤ → List ℕ → ℕ → ℕ → List ℕ
named_around iw pe len pivot n_elements = flat_map (list_in iw pe len) (elements_at iw pe pivot n_elements)
    ++ variables_at iw pe len pivot n_elements

-- from the workspace p to v the lists may have moved, with their free end, and each reads as before
pub record Rooms (n : ℕ) (p v : Workspace) : Type 0 where
  pub long : length v.iw ≡ length p.iw
  pub p_long : length v.pe ≡ length p.pe
  pub listed : (j : ℕ) → has_list v.pe p.len j ≡ has_list p.pe p.len j
  pub reads : (j : ℕ) → has_list p.pe p.len j ≡ true → ReadsSame p.iw p.pe p.e_len p.len v.iw v.pe p.e_len p.len j
  pub others : (j : ℕ) → has_list p.pe p.len j ≡ false → word v.pe j ≡ word p.pe j
  pub laid : Layout n v.iw v.pe p.e_len p.len v.free
  pub lower : v.free ≤ p.free
