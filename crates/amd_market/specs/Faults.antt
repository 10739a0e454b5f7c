-- Which fault a line has.
use Rattle.std.specs.Prelude.{◌≡◌, ◌≢◌, ◌<◌, ℕ, ℤ, true, false, List, [], ◌∷◌, Option, None}
use Rattle.std.specs.Prelude.{length, take, drop, map, codes, slice_index}
use Rattle.std.specs.Char.{to_ascii_lowercase}
use Rattle.amd_lines.specs.Words.{words, SpellsNumber}
use Rattle.amd_lines.specs.Lines.{is_note, percent}
use Rattle.amd_market.specs.Headers.{value_words, SpellsHeader, lowered, without_mark, format_text, field_text, is_void}
use Rattle.amd_market.specs.Entries.{SpellsSize, SpellsIndex, AreValues}
use Rattle.amd_market.specs.Boeing.{SpellsType, SpellsKind, SpellsLayout, SpellsField, SpellsFields, behind_fields}
use Rattle.amd_market.specs.declared.headers.Format.{Format}
use Rattle.amd_market.specs.declared.headers.Field.{Field}
use Rattle.amd_market.specs.declared.headers.Header.{Header}
use Rattle.amd_market.specs.declared.formats.Fields.{Fields}
use Rattle.amd_market.specs.declared.formats.Layout.{Layout}
use Rattle.amd_market.specs.declared.sources.Letters.{Letters}
use Rattle.amd_market.specs.declared.fields.Listed.{Listed}
use Rattle.amd_market.specs.declared.fields.Listed.TheVariants as listed
use Rattle.amd_market.specs.declared.found.Found.{Found}
use Rattle.amd_market.specs.declared.faults.ReadFault.{ReadFault}
use Rattle.amd_market.specs.declared.faults.ReadFault.TheVariants as fault
use Rattle.amd_market.specs.declared.faults.ReadError.{ReadError}
use Rattle.amd_market.specs.declared.faults.ReadError.TheVariants.{Line, Input}
use Rattle.amd_lines.specs.declared.errors.LineCause.{LineCause}
use Rattle.amd_lines.specs.declared.errors.LineCause.TheVariants as cause

-- the fault of a line where the size must stand: it is not three numbers, or those of a matrix that is not square
abbrev pub HasSizeFault : ReadFault → List ℕ → Type 0
HasSizeFault fault.Size line = (r c k : ℕ) → SpellsSize line r c k → ⊥
HasSizeFault (fault.NotSquare rows columns) line = (rows ≢ columns) × ((k : ℕ) × SpellsSize line rows columns k)
HasSizeFault f line = ⊥

-- the fault of a word where one of n rows must stand: it is a number out of range, or no number
abbrev pub HasRowFault : ReadFault → List ℕ → ℕ → Type 0
HasRowFault (fault.Row number rows) word n = (rows ≡ n) × SpellsNumber word number
HasRowFault fault.Entry word n = (z : ℤ) → SpellsNumber word z → ⊥
HasRowFault f word n = ⊥

-- the same of one of n columns
abbrev pub HasColumnFault : ReadFault → List ℕ → ℕ → Type 0
HasColumnFault (fault.Column number columns) word n = (columns ≡ n) × SpellsNumber word number
HasColumnFault fault.Entry word n = (z : ℤ) → SpellsNumber word z → ⊥
HasColumnFault f word n = ⊥

-- the fault of words that are not so many numbers: they are fewer, or more, or one of them is no number
abbrev pub HasValueFault : ReadFault → ℕ → List (List ℕ) → Type 0
HasValueFault fault.NoValue count ws = length ws < count
HasValueFault fault.Words count ws = count < length ws
HasValueFault fault.Value count ws = length ws ≡ count
HasValueFault f count ws = ⊥

-- the fault of a line where an entry of a matrix with n rows and columns must stand: it has no two words; or its first
-- word is no row; or this is one, and its second one is no column; or both are, and the words behind are no value
pub data HasEntryFault (field : Field) (n : ℕ) (f : ReadFault) (line : List ℕ) : Type 0 where
  too_few : f ≡ fault.Entry → length (words line) < 2 → HasEntryFault field n f line
  no_row : (first second : List ℕ) → (behind : List (List ℕ)) → words line ≡ first ∷ (second ∷ behind) →
      ((i : ℕ) → SpellsIndex first n i → ⊥) → HasRowFault f first n → HasEntryFault field n f line
  no_column : (first second : List ℕ) → (behind : List (List ℕ)) → words line ≡ first ∷ (second ∷ behind) → (i : ℕ) →
      SpellsIndex first n i → ((j : ℕ) → SpellsIndex second n j → ⊥) → HasColumnFault f second n →
      HasEntryFault field n f line
  no_value : (first second : List ℕ) → (behind : List (List ℕ)) → words line ≡ first ∷ (second ∷ behind) → (i j : ℕ) →
      SpellsIndex first n i → SpellsIndex second n j → (AreValues (value_words field) behind → ⊥) →
      HasValueFault f (value_words field) behind → HasEntryFault field n f line

-- the same where each value has a line: they are not so many words, or one of them is no number
abbrev pub HasCountFault : ReadFault → ℕ → List (List ℕ) → Type 0
HasCountFault fault.Cell count ws = length ws ≢ count
HasCountFault fault.Value count ws = length ws ≡ count
HasCountFault f count ws = ⊥

-- the fault of a line where a value of an array must stand: its words are no value
abbrev pub HasCellFault : Field → ReadFault → List ℕ → Type 0
HasCellFault field f line = (AreValues (value_words field) (words line) → ⊥) ×
    HasCountFault f (value_words field) (words line)

-- a word, but for the case of its letters
abbrev pub low : List ℕ → List ℕ
low w = map to_ascii_lowercase w

-- which words behind the format are wrong: the first is no field, or it is one, and what stands behind it is wrong
abbrev pub HasKindFault : ReadFault → List (List ℕ) → Type 0
HasKindFault fault.Field ws = (f : Field) → (vs : List (List ℕ)) → ws ≢ low (field_text f) ∷ vs
HasKindFault fault.Symmetry ws = (f : Field) × ((vs : List (List ℕ)) × (ws ≡ low (field_text f) ∷ vs))
HasKindFault f ws = ⊥

-- the line begins as gzip writes
abbrev pub IsGzip : List ℕ → Type 0
IsGzip line = (slice_index line 0 ≡ 31) × (slice_index line 1 ≡ 139)

-- a first line that lacks the banner: it begins as gzip writes, or not
abbrev pub HasBannerFault : ReadFault → List ℕ → Type 0
HasBannerFault fault.Gzip line = IsGzip line
HasBannerFault fault.Banner line = IsGzip line → ⊥
HasBannerFault f line = ⊥

-- a first line that lacks the banner, in a file of no kind: it is blank or a comment, or not
abbrev pub HasUnknownFault : ReadFault → List ℕ → Type 0
HasUnknownFault fault.Comment line = is_note percent (words line) ≡ true
HasUnknownFault fault.Banner line = is_note percent (words line) ≡ false
HasUnknownFault f line = ⊥

-- the words of a first line, but for the case of their letters, and the two that it must begin with
abbrev pub header_words : List ℕ → List (List ℕ)
header_words line = lowered (words (without_mark line))

abbrev pub banner_word : List ℕ
banner_word = low (codes "%%MatrixMarket")

abbrev pub object_word : List ℕ
object_word = low (codes "matrix")

-- the first line begins as it must, and these words stand behind
abbrev pub BeginsHeader : List ℕ → List (List ℕ) → Type 0
BeginsHeader line ws = header_words line ≡ banner_word ∷ (object_word ∷ ws)

-- which word of a first line is wrong, where those before it are right
abbrev pub HasWordFault : ReadFault → List ℕ → Type 0
HasWordFault fault.Gzip line = IsGzip line
HasWordFault fault.Banner line = (IsGzip line → ⊥) × ((vs : List (List ℕ)) → header_words line ≢ banner_word ∷ vs)
HasWordFault fault.Object line = (ws : List (List ℕ)) × ((header_words line ≡ banner_word ∷ ws) ×
    ((vs : List (List ℕ)) → ws ≢ object_word ∷ vs))
HasWordFault fault.Format line = (ws : List (List ℕ)) × (BeginsHeader line ws ×
    ((g : Format) → (vs : List (List ℕ)) → ws ≢ low (format_text g) ∷ vs))
HasWordFault fault.Field line = (g : Format) × ((ws : List (List ℕ)) × (BeginsHeader line (low (format_text g) ∷ ws) ×
    HasKindFault fault.Field ws))
HasWordFault fault.Symmetry line = (g : Format) × ((ws : List (List ℕ)) × (BeginsHeader line (low (format_text g) ∷ ws) ×
    HasKindFault fault.Symmetry ws))
HasWordFault f line = ⊥

-- the fault of a first line that is no header
abbrev pub HasHeaderFault : ReadFault → List ℕ → Type 0
HasHeaderFault f line = HasWordFault f line × ((h : Header) → SpellsHeader line h → ⊥)

-- the line is a header, but an array of this kind has no lines
abbrev pub HasVoidFault : ReadFault → List ℕ → Type 0
HasVoidFault fault.Void line = (h : Header) × (SpellsHeader line h × (is_void h ≡ true))
HasVoidFault f line = ⊥

-- the fault of a first line that is told at once: it is no header, but has the banner or begins as gzip writes; or it
-- is a header of an array without values
pub data HasFirstFault (f : ReadFault) (line : List ℕ) : Type 0 where
  no_header : HasHeaderFault f line → f ≢ fault.Banner → HasFirstFault f line
  void : HasVoidFault f line → HasFirstFault f line

-- the word is three letters of which the last says that the matrix is not assembled
abbrev pub IsElemental : List ℕ → Type 0
IsElemental word = (value : ℕ) × ((shape : ℕ) × (low word ≡ value ∷ (shape ∷ (101 ∷ []))))

-- the fault of a word where a type must stand
abbrev pub HasTypeFault : ReadFault → List ℕ → Type 0
HasTypeFault fault.Kind word = (t : Letters) → SpellsType word t → ⊥
HasTypeFault fault.Elemental word = IsElemental word
HasTypeFault f word = ⊥

-- the fault of the third line of a Harwell-Boeing file: it is no type with the numbers of rows, columns and entries
-- behind it; or the matrix is not assembled; or there are not as many rows as columns
abbrev pub HasCardFault : ReadFault → List ℕ → Type 0
HasCardFault fault.Kind line = (t : Letters) → (r c e : ℕ) → SpellsKind line t r c e → ⊥
HasCardFault fault.Elemental line = (word : List ℕ) × ((behind : List (List ℕ)) × ((words line ≡ word ∷ behind) ×
    IsElemental word))
HasCardFault (fault.NotSquare rows columns) line = (rows ≢ columns) × ((t : Letters) × ((e : ℕ) ×
    SpellsKind line t rows columns e))
HasCardFault f line = ⊥

-- the fault of its fourth line: it does not begin with two formats of whole numbers
abbrev pub HasLayoutFault : ReadFault → List ℕ → Type 0
HasLayoutFault f line = (f ≡ fault.Layout) × ((l : Layout) → SpellsLayout line l → ⊥)

-- the field has one word, and that is this number
abbrev pub IsNumberField : List ℕ → ℤ → Type 0
IsNumberField field z = (w : List ℕ) × ((words field ≡ w ∷ []) × SpellsNumber w z)

-- the fault of a field where one of so many pointers or rows must stand: it is not one number, or that is out of range
abbrev pub HasFieldFault : Listed → ℕ → ReadFault → List ℕ → Type 0
HasFieldFault listed bound fault.Number field = (z : ℤ) → IsNumberField field z → ⊥
HasFieldFault listed.Pointers bound (fault.Pointer number last) field = (last ≡ bound) × IsNumberField field number
HasFieldFault listed.Rows bound (fault.Row number rows) field = (rows ≡ bound) × IsNumberField field number
HasFieldFault listed bound f field = ⊥

-- the fault of a line where so many pointers or rows must stand in fields: some stand there, and the next field has it
pub record HasFieldsFault (listed : Listed) (width count bound : ℕ) (f : ReadFault) (line : List ℕ) : Type 0 where
  pub numbers : List ℕ
  pub few : length numbers < count
  pub spells : SpellsFields width bound line numbers
  pub none : (k : ℕ) → SpellsField (take width (behind_fields width line numbers)) bound k → ⊥
  pub has : HasFieldFault listed bound f (take width (behind_fields width line numbers))

-- the same behind the bytes of the line that are skipped
abbrev pub HasLineFault : Listed → Fields → ℕ → ℕ → ReadFault → List ℕ → Type 0
HasLineFault listed fields count bound f line =
    HasFieldsFault listed fields.width count bound f (drop fields.skipped line)

-- the faults that no text has: memory was refused, or 64 bits do not count the lines
abbrev pub IsOfMachine : ReadFault → Type 0
IsOfMachine fault.Lines = Unit {0}
IsOfMachine fault.OutOfMemory = Unit {0}
IsOfMachine f = ⊥

-- the faults that no text spells: there is no room for a line, for what was read, or for the count of lines
abbrev pub IsOfReading : ReadFault → Type 0
IsOfReading fault.Long = Unit {0}
IsOfReading fault.Lines = Unit {0}
IsOfReading fault.OutOfMemory = Unit {0}
IsOfReading f = ⊥

-- the number of the line that an error names
abbrev pub named_line : ReadError → ℕ
named_line (Line line fault found) = line
named_line (Input line error) = line

-- the error tells this fault of this line; of what it shows of the line it says nothing here
abbrev pub IsTold : ℕ → ReadFault → ReadError → Type 0
IsTold n f e = (found : Option Found) × (e ≡ Line n f found)

-- the error of a line that was not read, as an error of this reader
abbrev pub read_error : ℕ → LineCause → ReadError
read_error line cause.Long = Line line fault.Long None
read_error line cause.Lines = Line line fault.Lines None
read_error line cause.OutOfMemory = Line line fault.OutOfMemory None
read_error line (cause.Input error) = Input line error

-- an error of reading
abbrev pub IsUnread : ReadError → Type 0
IsUnread (Line n f found) = IsOfReading f
IsUnread (Input n error) = Unit {0}

-- what holds where a line is told to be too long
abbrev pub IfTooLong : ReadError → Type 0 → Type 0
IfTooLong (Line n fault.Long found) P = P
IfTooLong e P = Unit {0}
