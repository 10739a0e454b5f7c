-- A case of which some items were read.
use Rattle.std.specs.Prelude.{◌≡◌, ℕ, ◌+◌, pos, Bool, true, ◌&&◌, Option, None, Some, ◌++◌, is_some, unwrap_or}
use Rattle.std.specs.Prelude.{option_to_list}
use Rattle.amd_cases.specs.Items.{sizes_told, dense_of, aggressive_of, pointers_of, rows_of, hold_of, permutation_of}
use Rattle.amd_cases.specs.Items.{room_of, list_items}
use Rattle.amd_cases.specs.Items.{IsInside}
use Rattle.amd_cases.specs.declared.items.Item.{Item}
use Rattle.amd_cases.specs.declared.cases.Draft.{Draft}
use Rattle.amd_cases.specs.declared.cases.Case.{Case}

-- the new draft has what the old one has, and the item
pub record Adds {Z : Type 0} (old new : Draft Z) (item : Item Z) : Type 0 where
  pub inside : IsInside item
  pub number : new.number ≡ old.number
  pub size : option_to_list new.n ≡ option_to_list old.n ++ sizes_told item
  pub dense : option_to_list new.dense ≡ option_to_list old.dense ++ dense_of item
  pub aggressive : option_to_list new.aggressive ≡ option_to_list old.aggressive ++ aggressive_of item
  pub pointers : list_items new.a_p ≡ list_items old.a_p ++ pointers_of item
  pub rows : list_items new.a_i ≡ list_items old.a_i ++ rows_of item
  pub hold : list_items new.hold ≡ list_items old.hold ++ hold_of item
  pub permutation : list_items new.permutation ≡ list_items old.permutation ++ permutation_of item
  pub room : option_to_list new.room ≡ option_to_list old.room ++ room_of item

-- 1 where nothing is there
abbrev pub empty_slot : {T : Type 0} → Option T → ℕ
empty_slot None = 1
empty_slot (Some x) = 0

-- how many items the draft can still take
abbrev pub free_slots : {Z : Type 0} → Draft Z → ℕ
free_slots d = empty_slot d.n + empty_slot d.dense + empty_slot d.aggressive + empty_slot d.a_p + empty_slot d.a_i
    + empty_slot
    d.hold + empty_slot d.permutation + empty_slot d.room

-- whether N, AP and AI were there
abbrev pub is_complete : {Z : Type 0} → Draft Z → Bool
is_complete d = is_some d.n && is_some d.a_p && is_some d.a_i

-- the case has what the draft has, and the defaults for what it has not
pub record Finishes {Z : Type 0} (d : Draft Z) (c : Case Z) : Type 0 where
  pub number : c.number ≡ d.number
  pub size : d.n ≡ Some c.n
  pub dense : c.dense ≡ unwrap_or d.dense (pos 10000)
  pub aggressive : c.aggressive ≡ unwrap_or d.aggressive true
  pub pointers : d.a_p ≡ Some c.a_p
  pub rows : d.a_i ≡ Some c.a_i
  pub hold : c.hold ≡ d.hold
  pub permutation : c.permutation ≡ d.permutation
  pub room : c.room ≡ d.room
