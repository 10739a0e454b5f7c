-- What the third line of a Harwell-Boeing file says: a type, which is three letters, and sizes.
use Rattle.std.proofs.Common.{◌≡◌, ◌≢◌, ◌<◌, ◌∙◌, ℕ, List, [], ◌∷◌, None, Some, ap, arith, get_or, length, map, pos, refl, sym}
use Rattle.std.specs.Char.{to_ascii_lowercase}
use Rattle.std.proofs.lemmas.List.{get_or-map, length-map}
use Rattle.amd_lines.specs.Words.{SpellsNumber}
use Rattle.amd_market.specs.Boeing.{BeginsWithNoCount, SpellsSizes, SpellsType, letter_symmetry, letter_values}
use Rattle.amd_market.specs.Faults.{IsElemental}
use Rattle.amd_market.specs.declared.sources.Letters.{Letters}

-- one letter of a word, in lower case
abbrev letter : List ℕ → ℕ → ℕ
letter word k = to_ascii_lowercase (get_or word k 0)

three : (word : List ℕ) → length word ≡ 3 → map to_ascii_lowercase word ≡ letter word 0 ∷ (letter word 1 ∷ (letter word 2 ∷ []))
three [] h = cc
three (x ∷ []) h = cc
three (x ∷ (y ∷ [])) h = cc
three (x ∷ (y ∷ (z ∷ []))) h = refl
three (x ∷ (y ∷ (z ∷ (v ∷ vs)))) h = absurd (omega (arith, h))

module _ (word : List ℕ) (t : Letters) (h : SpellsType word t) where
  type-size : length word ≡ 3
  type-size = sym (length-map word to_ascii_lowercase) ∙ ap length h.letters

  type-letter : (k : ℕ) → k < 3 → letter word k ≡ get_or (h.value ∷ (h.shape ∷ (97 ∷ []))) k 0
  type-letter k l = let size = type-size in
      sym (get_or-map to_ascii_lowercase word k 0 0 (omega (arith, size, l))) ∙ ap (λ z. get_or z k 0) h.letters

-- a word of another length is no type
pub type-length : (word : List ℕ) → length word ≢ 3 → (t : Letters) → SpellsType word t → ⊥
type-length word other t h = other (type-size word t h)

-- nor is one whose letters say no values, or no symmetry, or are not assembled
pub type-no-values : (word : List ℕ) → letter_values (letter word 0) ≡ None → (t : Letters) → SpellsType word t → ⊥
type-no-values word none t h = let e = ap letter_values (type-letter word t h 0 (omega arith)) in let some = h.has_value in cc

pub type-no-symmetry : (word : List ℕ) → letter_symmetry (letter word 1) ≡ None → (t : Letters) → SpellsType word t → ⊥
type-no-symmetry word none t h = let e = ap letter_symmetry (type-letter word t h 1 (omega arith)) in let some = h.has_shape in cc

pub type-no-storage : (word : List ℕ) → letter word 2 ≢ 97 → (t : Letters) → SpellsType word t → ⊥
type-no-storage word other t h = other (type-letter word t h 2 (omega arith))

-- three letters that do are one
pub type-whole : (word : List ℕ) (t : Letters) → length word ≡ 3 → letter_values (letter word 0) ≡ Some t.values →
    letter_symmetry (letter word 1) ≡ Some t.symmetry → letter word 2 ≡ 97 → SpellsType word t
type-whole word t size values symmetry storage = record {
  value = letter word 0;
  shape = letter word 1;
  letters = three word size ∙ ap (λ z. letter word 0 ∷ (letter word 1 ∷ (z ∷ []))) storage;
  has_value = values;
  has_shape = symmetry;
}

pub type-elemental : (word : List ℕ) → length word ≡ 3 → letter word 2 ≡ 101 → IsElemental word
type-elemental word size storage =
    (letter word 0, (letter word 1, three word size ∙ ap (λ z. letter word 0 ∷ (letter word 1 ∷ (z ∷ []))) storage))

-- words that begin with no three numbers tell no sizes
pub no-rows : (ws : List (List ℕ)) → BeginsWithNoCount ws → (r c e : ℕ) → SpellsSizes ws r c e → ⊥
no-rows ws none r c e h = none h.first (h.second ∷ (h.third ∷ h.behind)) h.parts (r, h.has_rows)

pub no-columns : (ws us : List (List ℕ)) (w : List ℕ) → ws ≡ w ∷ us → BeginsWithNoCount us → (r c e : ℕ) → SpellsSizes ws r c e → ⊥
no-columns ws us w parts none r c e h =
    let whole = h.parts in
    let behind : us ≡ h.second ∷ (h.third ∷ h.behind) = cc in none h.second (h.third ∷ h.behind) behind (c, h.has_columns)

pub no-entries : (ws us vs : List (List ℕ)) (w v : List ℕ) → ws ≡ w ∷ us → us ≡ v ∷ vs → BeginsWithNoCount vs → (r c e : ℕ) →
    SpellsSizes ws r c e → ⊥
no-entries ws us vs w v parts more none r c e h =
    let whole = h.parts in
    let behind : vs ≡ h.third ∷ h.behind = cc in none h.third h.behind behind (e, h.has_entries)

-- three numbers are sizes
pub sizes-whole : (ws us vs xs : List (List ℕ)) (w v x : List ℕ) (r c e : ℕ) → ws ≡ w ∷ us → us ≡ v ∷ vs → vs ≡ x ∷ xs →
    SpellsNumber w (pos r) → SpellsNumber v (pos c) → SpellsNumber x (pos e) → SpellsSizes ws r c e
sizes-whole ws us vs xs w v x r c e first second third rows columns entries = record {
  first = w;
  second = v;
  third = x;
  behind = xs;
  parts = first ∙ ap (λ z. w ∷ z) (second ∙ ap (λ z. v ∷ z) third);
  has_rows = rows;
  has_columns = columns;
  has_entries = entries;
}
