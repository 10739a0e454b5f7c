-- The items that spell a case.
use Rattle.std.specs.Prelude.{◌≡◌, pos, true, List, [], ◌∷◌, ◌++◌, option_to_list}
use Rattle.std.specs.List.{flat_map}
use Rattle.amd_cases.specs.Items.{IsInside, sizes_told, dense_of, aggressive_of, pointers_of, rows_of, hold_of}
use Rattle.amd_cases.specs.Items.{permutation_of, room_of}
use Rattle.amd_cases.specs.Items.{list_items}
use Rattle.amd_cases.specs.declared.items.Item.{Item}
use Rattle.amd_cases.specs.declared.items.Item.TheVariants as item
use Rattle.amd_cases.specs.declared.cases.Case.{Case}

-- the one value of a list, or the other one where the list is empty
abbrev pub IsOrElse : {X : Type 0} → List X → X → X → Type 0
IsOrElse [] other x = x ≡ other
IsOrElse (y ∷ []) other x = x ≡ y
IsOrElse (y ∷ z ∷ zs) other x = ⊥

-- no item begins or ends a case
abbrev pub AllInside : {Z : Type 0} → List (Item Z) → Type 0
AllInside [] = Unit {0}
AllInside (i ∷ is) = IsInside i × AllInside is

-- the items are CASE, then once each N, AP and AI and at most once each of the others, in any order, and then END; they
-- tell the fields
pub record SpellsCase {Z : Type 0} (items : List (Item Z)) (case : Case Z) : Type 0 where
  pub body : List (Item Z)
  pub framed : items ≡ item.Case case.number ∷ (body ++ item.End ∷ [])
  pub inside : AllInside body
  pub size : flat_map sizes_told body ≡ case.n ∷ []
  pub dense : IsOrElse (flat_map dense_of body) (pos 10000) case.dense
  pub aggressive : IsOrElse (flat_map aggressive_of body) true case.aggressive
  pub pointers : flat_map pointers_of body ≡ case.a_p.items ∷ []
  pub rows : flat_map rows_of body ≡ case.a_i.items ∷ []
  pub hold : flat_map hold_of body ≡ list_items case.hold
  pub permutation : flat_map permutation_of body ≡ list_items case.permutation
  pub room : flat_map room_of body ≡ option_to_list case.room
