-- The words of a line, and the numbers that words spell.
use Rattle.std.specs.Prelude.{◌≡◌, ◌≢◌, ◌<◌, ◌≤◌, ◌^◌, ℕ, ℤ, Bool, true, false, List, [], ◌∷◌, ◌++◌, length}
use Rattle.std.specs.Prelude.{take, drop, map, cond, ◌==◌, ◌||◌, slice_index, nat_lt, filter, FitsSigned}
use Rattle.std.specs.Int.{w64, IsInRange}
use Rattle.std.specs.Char.{is_ascii_whitespace}
use Rattle.std.specs.Float.Parse.{completes_number, without_sign}
use Rattle.std.specs.List.{slice_split}
use Rattle.std.specs.Str.Parse.{IsNumeral, digits_value, without_leading_sign, signed_digits_value}

-- whether a part of a line has a byte
abbrev pub has_bytes : List ℕ → Bool
has_bytes part = nat_lt 0 (length part)

-- the words of a line: its parts between white space that are not empty
abbrev pub words : List ℕ → List (List ℕ)
words line = filter has_bytes (slice_split is_ascii_whitespace line)

-- there is a word, and this is the first byte of the first one
abbrev pub BeginsWithByte : ℕ → List (List ℕ) → Type 0
BeginsWithByte b ws = (w : List ℕ) × (others : List (List ℕ)) × (ws ≡ (b ∷ w) ∷ others)

-- a word is a sign or none and then decimal digits, of which the number is z, and 64 bits hold it
pub record SpellsNumber (word : List ℕ) (z : ℤ) : Type 0 where
  pub numeral : IsNumeral 10 (without_leading_sign word)
  pub value : z ≡ signed_digits_value 10 word
  pub fits : FitsSigned w64 z

-- as many words as numbers, and each word spells its number
abbrev pub SpellsNumbers : List (List ℕ) → List ℤ → Type 0
SpellsNumbers [] [] = Unit {0}
SpellsNumbers (w ∷ ws) (z ∷ zs) = SpellsNumber w z × SpellsNumbers ws zs
SpellsNumbers [] (z ∷ zs) = ⊥
SpellsNumbers (w ∷ ws) [] = ⊥

-- 'e' in the place of 'D' and 'd', with which Fortran begins the exponent of a double
abbrev pub exponent_mark : ℕ → ℕ
exponent_mark b = cond (b == 68 || b == 100) 101 b

-- the word is a number in digits, with a 'D' where an 'e' may stand
abbrev pub is_double_text : List ℕ → Bool
is_double_text w = completes_number 0 (map exponent_mark (without_sign w))

-- the first k bytes of a text are digits, and write the number
pub record LeadsNumber (text : List ℕ) (k number : ℕ) : Type 0 where
  pub within : k ≤ length text
  pub digits : (i : ℕ) → i < k → IsInRange 48 57 (slice_index text i)
  pub value : number ≡ digits_value 10 (take k text)
  pub small : number < 10 ^ k

-- the first k bytes of a text are no white space, and a reader of a float has come to the state behind them
pub record Scanned (text : List ℕ) (k state : ℕ) : Type 0 where
  pub within : k ≤ length text
  pub parted : (i : ℕ) → i < k → is_ascii_whitespace (slice_index text i) ≡ false
  pub reads : (tail : List ℕ) → completes_number 0 (take k text ++ tail) ≡ completes_number state tail

-- the bytes of a text from one place to another are digits
pub record HasDigits (text : List ℕ) (begin end : ℕ) : Type 0 where
  pub ordered : begin ≤ end
  pub within : end ≤ length text
  pub digits : (i : ℕ) → begin ≤ i → i < end → IsInRange 48 57 (slice_index text i)

-- the first k bytes of a text are white space, and none of them is a line feed
pub record AreBlanks (text : List ℕ) (k : ℕ) : Type 0 where
  pub within : k ≤ length text
  pub blank : (i : ℕ) → i < k → is_ascii_whitespace (slice_index text i) ≡ true
  pub none : (i : ℕ) → i < k → slice_index text i ≢ 10

-- a text ends another one, and none of the bytes before it there is a line feed
pub record StaysInLine (text rest : List ℕ) : Type 0 where
  pub passed : ℕ
  pub within : passed ≤ length text
  pub is : rest ≡ drop passed text
  pub none : (i : ℕ) → i < passed → slice_index text i ≢ 10

-- the first line feed of a text stands at place k
pub record EndsAt (text : List ℕ) (k : ℕ) : Type 0 where
  pub within : k < length text
  pub feed : slice_index text k ≡ 10
  pub none : (i : ℕ) → i < k → slice_index text i ≢ 10
