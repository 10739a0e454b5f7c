-- The text of a matrix whose rows and columns stand at other places. Each entry keeps its value, as it is spelled.
use Rattle.std.specs.Prelude.{◌≡◌, ◌==◌, ◌+◌, ◌-◌, ◌&&◌, if◌then◌else◌, ℕ, true, false, Option, Some, IfSome, List, []}
use Rattle.std.specs.Prelude.{◌∷◌, ◌++◌}
use Rattle.std.specs.Prelude.{codes, decimal, flat_map, length, map, nat_lt, slice_index}
use Rattle.std.specs.List.{AllZip}
use Rattle.amd_lines.specs.Words.{words}
use Rattle.std.specs.Io.BufRead.{take_through}
use Rattle.amd_lines.specs.Lines.{BeginsWith, TakesLines, percent, rest_of, telling}
use Rattle.amd_lines.specs.declared.lines.LineReader.{LineReader}
use Rattle.amd_cli.specs.declared.valued.Value.{Value}
use Rattle.amd_cli.specs.declared.valued.Value.TheVariants.{Nothing, Number, Parts}
use Rattle.amd_market.specs.Entries.{SpellsIndex}
use Rattle.amd_market.specs.Headers.{SpellsHeader, is_array, is_mirrored, value_words}
use Rattle.amd_market.specs.declared.headers.Field.{Field}
use Rattle.amd_market.specs.declared.headers.Header.{Header}
use Rattle.amd_market.specs.declared.headers.Symmetry.{Symmetry}
use Rattle.amd_market.specs.declared.headers.Symmetry.TheVariants as kind

-- an entry: its row and its column, from 0 on, and the words of its value
pub record Valued : Type 0 where
  pub row : ℕ
  pub column : ℕ
  pub values : List (List ℕ)

-- the words of a value
abbrev pub words_of : Value → List (List ℕ)
words_of Nothing = []
words_of (Number word) = word.now ∷ []
words_of (Parts real imaginary) = real.now ∷ (imaginary.now ∷ [])

-- the line is the entry, and its value has the words of the field
pub record SpellsValued (field : Field) (n : ℕ) (line : List ℕ) (e : Valued) : Type 0 where
  pub first : List ℕ
  pub second : List ℕ
  pub parts : words line ≡ first ∷ (second ∷ e.values)
  pub has_row : SpellsIndex first n e.row
  pub has_column : SpellsIndex second n e.column
  pub counted : length e.values ≡ value_words field

-- the number of the other sign: without its minus, or with one in the place of its plus or before it
abbrev pub negated : List ℕ → List ℕ
negated [] = 45 ∷ []
negated (b ∷ w) = if b == 45 then w else (45 ∷ (if b == 43 then w else b ∷ w))

-- the words of the value at the mirror image of a place
abbrev pub mirrored_values : Symmetry → List (List ℕ) → List (List ℕ)
mirrored_values kind.SkewSymmetric ws = map negated ws
mirrored_values kind.Hermitian (w ∷ ws) = w ∷ map negated ws
mirrored_values s ws = ws

abbrev pub spaced : List ℕ → List ℕ
spaced w = 32 ∷ w

-- the line of an entry: its row and its column, from 1 on, and the words of its value
abbrev pub entry_text : ℕ → ℕ → List (List ℕ) → List ℕ
entry_text row column values =
    decimal (row + 1) ++ codes " " ++ decimal (column + 1) ++ flat_map spaced values ++ codes "\n"

-- the line of an entry at other places; where it stands for its mirror image too, the one that is not above the diagonal
abbrev pub placed_text : Symmetry → List ℕ → Valued → List ℕ
placed_text s places e =
    let row : ℕ = slice_index places e.row in
    let column : ℕ = slice_index places e.column in
    if is_mirrored s && nat_lt row column then entry_text column row (mirrored_values s e.values) else entry_text row column e.values

-- a line with a line feed at its end
abbrev pub ended : List ℕ → List ℕ
ended line = if slice_index line (length line - 1) == 10 then line else line ++ 10 ∷ []

-- all lines that were left were read, those that say something are entries, and their lines at their places were added
pub record TakesPlaced {R Z : Type 0} (remaining : R → Option (List ℕ)) (old new : LineReader R Z) (header : Header)
    (places before after : List ℕ) : Type 0 where
  pub lines : List (List ℕ)
  pub takes : TakesLines remaining old new lines
  pub end : IfSome (rest_of remaining old) (λ bytes. rest_of remaining new ≡ Some [])
  pub entries : List Valued
  pub spells : AllZip (SpellsValued header.field (length places)) (telling percent lines) entries
  pub placed : after ≡ before ++ flat_map (placed_text header.symmetry places) entries

-- the same behind a line of the size, which was added first
pub record TakesListed {R Z : Type 0} (remaining : R → Option (List ℕ)) (old new : LineReader R Z) (header : Header)
    (places before after : List ℕ) : Type 0 where
  pub lines : List (List ℕ)
  pub takes : TakesLines remaining old new lines
  pub end : IfSome (rest_of remaining old) (λ bytes. rest_of remaining new ≡ Some [])
  pub size_line : List ℕ
  pub entry_lines : List (List ℕ)
  pub parts : telling percent lines ≡ size_line ∷ entry_lines
  pub entries : List Valued
  pub spells : AllZip (SpellsValued header.field (length places)) entry_lines entries
  pub placed : after ≡ (before ++ ended size_line) ++ flat_map (placed_text header.symmetry places) entries

-- the first line is not that of a matrix whose entries are listed
abbrev pub ListsNothing : List ℕ → Type 0
ListsNothing bytes = (h : Header) → SpellsHeader (take_through 10 bytes) h → is_array h.format ≡ true

-- the second text has the first line and the line of the size of the first text, and the line of each of its entries at
-- its places
pub record PlacesText (bytes places text : List ℕ) : Type 0 where
  pub first : List ℕ
  pub others : List (List ℕ)
  pub lines : BeginsWith (first ∷ others) bytes (Some [])
  pub header : Header
  pub has_header : SpellsHeader first header
  pub lists : is_array header.format ≡ false
  pub size_line : List ℕ
  pub entry_lines : List (List ℕ)
  pub parts : telling percent others ≡ size_line ∷ entry_lines
  pub entries : List Valued
  pub spells : AllZip (SpellsValued header.field (length places)) entry_lines entries
  pub placed : text ≡ (ended first ++ ended size_line) ++ flat_map (placed_text header.symmetry places) entries
