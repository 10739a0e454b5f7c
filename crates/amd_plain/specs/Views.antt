-- What vectors say as functions of a row or an element, and what the record of this engine says so.
use Rattle.std.specs.Prelude.{ℕ, Bool, false, Option, None, List, [], Vec, ◌≡◌, map, length, All, slice_index_or}
use Rattle.amd_round_laws.specs.Views as views
use Rattle.amd_round_laws.specs.Views.{ClassLists, View}
pub use Rattle.amd_round_laws.specs.Views.{Below}
pub use Rattle.amd_words.specs.Words.{num}
use Rattle.amd_plain.specs.declared.work.PlainLists.{PlainLists}
use Rattle.amd_plain.specs.declared.work.PlainWork.{PlainWork}

-- the mark at a place: nothing past the end is marked
abbrev pub mark_at : List Bool → ℕ → Bool
mark_at marks j = slice_index_or marks j false

-- what stands at a place, nothing past the end
abbrev pub some_at : List (Option ℕ) → ℕ → Option ℕ
some_at places j = slice_index_or places j None

-- the list at a place, empty past the end
abbrev pub list_at : {A : Type 0} → List (Vec ℕ A) → ℕ → List ℕ
list_at lists e = slice_index_or (map (λ v. v.items) lists) e []

-- the numbers of a list that name a class: what has no row is none
abbrev pub plain_live : List ℕ → List ℕ → List ℕ
plain_live size xs = views.live_of (num size) xs

-- there are n lists, and each of their numbers is below n
abbrev pub ListsBelow : {A : Type 0} → ℕ → List (Vec ℕ A) → Type 0
ListsBelow n lists = (length lists ≡ n) × All (λ v. Below n v.items) lists

-- nothing is marked
abbrev pub Clear : List Bool → Type 0
Clear marks = (j : ℕ) → mark_at marks j ≡ false

-- the lists of the classes
abbrev pub lists_of : {A : Type 0} → PlainLists A → ClassLists
lists_of lists = record { variables = list_at lists.variables.items; elements = list_at lists.elements.items }

-- the record of the plain engine
abbrev pub plain_view : {A : Type 0} → PlainWork A → View
plain_view w = record {
  rows = length w.link.items;
  lists = lists_of w.lists;
  members = list_at w.lists.members.items;
  size = num w.size.items;
  bound = num w.bound.items;
  least = w.least;
  live = w.live;
  link = some_at w.link.items;
  parent = some_at w.parent.items;
  block = num w.block.items;
  front = num w.front.items;
  n_dense = w.n_dense;
  figures = w.figures;
}
