-- A draft has what the items that were read tell.
use Rattle.std.proofs.Common.{◌≡◌, ℤ, Option, Some, None, List, [], ◌∷◌, ◌++◌, refl, sym, ap, ◌∙◌, append-nil}
use Rattle.std.specs.Prelude.{option_to_list, unwrap_or}
use Rattle.std.specs.List.{flat_map}
use Rattle.std.proofs.lemmas.Grind.{flat_map-append}
use Rattle.amd_cases.specs.Items.{IsInside, sizes_told, dense_of, aggressive_of, pointers_of, rows_of, hold_of, permutation_of, room_of}
use Rattle.amd_cases.specs.Items.{list_items}
use Rattle.amd_cases.specs.Drafts.{Adds, Finishes}
use Rattle.amd_cases.specs.Spelling.{AllInside, IsOrElse, SpellsCase}
use Rattle.amd_cases.specs.declared.items.Item.{Item}
use Rattle.amd_cases.specs.declared.items.Item.TheVariants as item
use Rattle.amd_cases.specs.declared.cases.Draft.{Draft}
use Rattle.amd_cases.specs.declared.cases.Case.{Case}

-- each slot has the one value that the items tell of it, or none
pub record Gathers {Z : Type 0} (number : ℤ) (body : List (Item Z)) (d : Draft Z) : Type 0 where
  pub numbered : d.number ≡ number
  pub inside : AllInside body
  pub size : flat_map sizes_told body ≡ option_to_list d.n
  pub dense : flat_map dense_of body ≡ option_to_list d.dense
  pub aggressive : flat_map aggressive_of body ≡ option_to_list d.aggressive
  pub pointers : flat_map pointers_of body ≡ list_items d.a_p
  pub rows : flat_map rows_of body ≡ list_items d.a_i
  pub hold : flat_map hold_of body ≡ list_items d.hold
  pub permutation : flat_map permutation_of body ≡ list_items d.permutation
  pub room : flat_map room_of body ≡ option_to_list d.room

inside-more : {Z : Type 0} (body : List (Item Z)) (i : Item Z) → AllInside body → IsInside i → AllInside (body ++ i ∷ [])
inside-more [] i h k = (k, tt)
inside-more (j ∷ body) i h k = (h.0, inside-more body i h.1 k)

told-more : {Z X : Type 0} (f : Item Z → List X) (body : List (Item Z)) (i : Item Z) (old new : List X) → flat_map f body ≡ old →
    new ≡ old ++ f i → flat_map f (body ++ i ∷ []) ≡ new
told-more f body i old new h k = flat_map-append f body (i ∷ []) ∙ ap (λ t. t ++ (f i ++ [])) h ∙ ap (λ t. old ++ t) (append-nil (f i)) ∙
    sym k

-- no item was read
pub gathers-none : {Z : Type 0} (number k : ℤ) (d : Draft Z) →
    d ≡ record {
      number = k;
      n = None;
      dense = None;
      aggressive = None;
      a_p = None;
      a_i = None;
      hold = None;
      permutation = None;
      room =
          None;
    } → k ≡ number → Gathers number [] d
gathers-none number k d new same =
    rw new (record {
      numbered = same;
      inside = tt;
      size = refl;
      dense = refl;
      aggressive = refl;
      pointers = refl;
      rows = refl;
      hold =
          refl;
      permutation = refl;
      room = refl;
    })

-- one item more
pub gathers-more : {Z : Type 0} (number : ℤ) (body : List (Item Z)) (old new : Draft Z) (i : Item Z) → Gathers number body old →
    Adds old new i → Gathers number (body ++ i ∷ []) new
gathers-more number body old new i h k = record {
  numbered = k.number ∙ h.numbered;
  inside = inside-more body i h.inside k.inside;
  size = told-more sizes_told body i _ _ h.size k.size;
  dense = told-more dense_of body i _ _ h.dense k.dense;
  aggressive = told-more aggressive_of body i _ _ h.aggressive k.aggressive;
  pointers = told-more pointers_of body i _ _ h.pointers k.pointers;
  rows = told-more rows_of body i _ _ h.rows k.rows;
  hold = told-more hold_of body i _ _ h.hold k.hold;
  permutation = told-more permutation_of body i _ _ h.permutation k.permutation;
  room = told-more room_of body i _ _ h.room k.room;
}

or-else : {X : Type 0} (told : List X) (o : Option X) (other x : X) → told ≡ option_to_list o → x ≡ unwrap_or o other →
    IsOrElse told other x
or-else told None other x h k = rw h k
or-else told (Some y) other x h k = rw h k

-- the items, between the first and the last one, spell the case that was finished
pub gathers-all : {Z : Type 0} (number : ℤ) (body : List (Item Z)) (d : Draft Z) (c : Case Z) → Gathers number body d → Finishes d c →
    SpellsCase (item.Case number ∷ (body ++ item.End ∷ [])) c
gathers-all number body d c h k = record {
  body = body;
  framed = ap (λ n. item.Case n ∷ (body ++ item.End ∷ [])) (sym (k.number ∙ h.numbered));
  inside = h.inside;
  size = h.size ∙ ap option_to_list k.size;
  dense = or-else _ d.dense _ _ h.dense k.dense;
  aggressive = or-else _ d.aggressive _ _ h.aggressive k.aggressive;
  pointers = h.pointers ∙ ap list_items k.pointers;
  rows = h.rows ∙ ap list_items k.rows;
  hold = h.hold ∙ ap list_items (sym k.hold);
  permutation = h.permutation ∙ ap list_items (sym k.permutation);
  room = h.room ∙ ap option_to_list (sym k.room);
}
