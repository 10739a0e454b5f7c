-- The items of a case, and the lines that spell them.
use Rattle.std.specs.Prelude.{◌≡◌, ℕ, ℤ, pos, Bool, true, false, Option, None, Some, List, [], ◌∷◌, map, codes}
use Rattle.std.specs.Prelude.{FitsSigned}
use Rattle.std.specs.Int.{w32}
use Rattle.std.specs.declared.vec.Vec.{Vec}
use Rattle.amd_lines.specs.Words.{words, SpellsNumbers}
use Rattle.amd_cases.specs.declared.items.Keyword.{Keyword}
use Rattle.amd_cases.specs.declared.items.Keyword.TheVariants as key
use Rattle.amd_cases.specs.declared.items.Item.{Item}
use Rattle.amd_cases.specs.declared.items.Item.TheVariants.{Case, Size, Dense, Aggressive, Pointers, Rows, Hold}
use Rattle.amd_cases.specs.declared.items.Item.TheVariants.{Permutation, Room, End}

-- the word that a keyword is
abbrev pub keyword_text : Keyword → List ℕ
keyword_text key.Case = codes "CASE"
keyword_text key.Size = codes "N"
keyword_text key.Dense = codes "T"
keyword_text key.Aggressive = codes "AGG"
keyword_text key.Pointers = codes "AP"
keyword_text key.Rows = codes "AI"
keyword_text key.Hold = codes "HOLD"
keyword_text key.Permutation = codes "PERM"
keyword_text key.Room = codes "ROOM"
keyword_text key.End = codes "END"

-- the keyword that an item has
abbrev pub item_keyword : {Z : Type 0} → Item Z → Keyword
item_keyword (Case k) = key.Case
item_keyword (Size n) = key.Size
item_keyword (Dense t) = key.Dense
item_keyword (Aggressive b) = key.Aggressive
item_keyword (Pointers v) = key.Pointers
item_keyword (Rows v) = key.Rows
item_keyword (Hold v) = key.Hold
item_keyword (Permutation v) = key.Permutation
item_keyword (Room r) = key.Room
item_keyword End = key.End

-- 1 for yes, 0 for no
abbrev pub truth_number : Bool → ℤ
truth_number true = pos 1
truth_number false = pos 0

-- the numbers of an item
abbrev pub item_numbers : {Z : Type 0} → Item Z → List ℤ
item_numbers (Case k) = k ∷ []
item_numbers (Size n) = n ∷ []
item_numbers (Dense t) = t ∷ []
item_numbers (Aggressive b) = truth_number b ∷ []
item_numbers (Pointers v) = v.items
item_numbers (Rows v) = v.items
item_numbers (Hold v) = map truth_number v.items
item_numbers (Permutation v) = v.items
item_numbers (Room r) = r ∷ []
item_numbers End = []

-- the dense row parameter fits 32 bits
abbrev pub FitsItem : {Z : Type 0} → Item Z → Type 0
FitsItem (Case k) = Unit {0}
FitsItem (Size n) = Unit {0}
FitsItem (Dense t) = FitsSigned w32 t
FitsItem (Aggressive b) = Unit {0}
FitsItem (Pointers v) = Unit {0}
FitsItem (Rows v) = Unit {0}
FitsItem (Hold v) = Unit {0}
FitsItem (Permutation v) = Unit {0}
FitsItem (Room r) = Unit {0}
FitsItem End = Unit {0}

-- a line is the keyword of an item, and then words that spell its numbers
pub record SpellsItem {Z : Type 0} (line : List ℕ) (item : Item Z) : Type 0 where
  pub behind : List (List ℕ)
  pub begins : words line ≡ keyword_text (item_keyword item) ∷ behind
  pub numbers : SpellsNumbers behind (item_numbers item)
  pub fits : FitsItem item

-- the number of rows and columns that an item tells, if any
abbrev pub sizes_told : {Z : Type 0} → Item Z → List ℤ
sizes_told (Size n) = n ∷ []
sizes_told _ = []

-- the dense row parameter that an item tells, if any
abbrev pub dense_of : {Z : Type 0} → Item Z → List ℤ
dense_of (Dense t) = t ∷ []
dense_of _ = []

-- the aggressive flag that an item tells, if any
abbrev pub aggressive_of : {Z : Type 0} → Item Z → List Bool
aggressive_of (Aggressive b) = b ∷ []
aggressive_of _ = []

-- the pointers that an item tells, if any
abbrev pub pointers_of : {Z : Type 0} → Item Z → List (List ℤ)
pointers_of (Pointers v) = v.items ∷ []
pointers_of _ = []

-- the rows that an item tells, if any
abbrev pub rows_of : {Z : Type 0} → Item Z → List (List ℤ)
rows_of (Rows v) = v.items ∷ []
rows_of _ = []

-- the marks of held rows that an item tells, if any
abbrev pub hold_of : {Z : Type 0} → Item Z → List (List Bool)
hold_of (Hold v) = v.items ∷ []
hold_of _ = []

-- the permutation that an item tells, if any
abbrev pub permutation_of : {Z : Type 0} → Item Z → List (List ℤ)
permutation_of (Permutation v) = v.items ∷ []
permutation_of _ = []

-- the number of entries that an item tells, if any
abbrev pub room_of : {Z : Type 0} → Item Z → List ℤ
room_of (Room r) = r ∷ []
room_of _ = []

-- the members of a list that may be there
abbrev pub list_items : {X Z : Type 0} → Option (Vec X Z) → List (List X)
list_items None = []
list_items (Some v) = v.items ∷ []

-- the item is neither the first nor the last of a case
abbrev pub IsInside : {Z : Type 0} → Item Z → Type 0
IsInside (Case k) = ⊥
IsInside End = ⊥
IsInside _ = Unit {0}
