-- The lines of a Harwell-Boeing file, and the entries that its pointers and rows stand for.
use Rattle.std.specs.Prelude.{◌≡◌, ◌<◌, ◌≤◌, ◌+◌, ◌-◌, ◌*◌, ◌^◌, ◌⊎◌, ◌==◌, ◌||◌, ◌&&◌, cond, nat_lt, ℕ, pos, zero, suc}
use Rattle.std.specs.Prelude.{Bool, List, [], ◌∷◌, ◌++◌}
use Rattle.std.specs.Prelude.{Option, Some, None, length, map, take, drop, min, slice_index, slice_range, flat_map}
use Rattle.std.specs.Char.{to_ascii_lowercase}
use Rattle.amd_lines.specs.Words.{words, SpellsNumber}
use Rattle.amd_market.specs.Headers.{pairs_of}
use Rattle.amd_market.specs.Entries.{SpellsIndex}
use Rattle.amd_market.specs.Columns.{HoldsOnce}
use Rattle.amd_market.specs.declared.headers.Symmetry.{Symmetry}
use Rattle.amd_market.specs.declared.headers.Symmetry.TheVariants as kind
use Rattle.amd_market.specs.declared.cards.Kind.{Kind}
use Rattle.amd_market.specs.declared.sources.Values.{Values}
use Rattle.amd_market.specs.declared.sources.Values.TheVariants as values
use Rattle.amd_market.specs.declared.sources.Letters.{Letters}
use Rattle.amd_market.specs.declared.sources.Source.{Source}
use Rattle.amd_market.specs.declared.sources.Source.TheVariants as source
use Rattle.amd_market.specs.declared.formats.Fields.{Fields}
use Rattle.amd_market.specs.declared.formats.Layout.{Layout}

-- 'i' and 'I'
abbrev pub is_whole_letter : ℕ → Bool
is_whole_letter b = b == 105 || b == 73

-- '.', ',', '(' and ' '
abbrev pub is_point : ℕ → Bool
is_point b = b == 46

abbrev pub is_comma : ℕ → Bool
is_comma b = b == 44

abbrev pub is_bracket : ℕ → Bool
is_bracket b = b == 40

abbrev pub is_space : ℕ → Bool
is_space b = b == 32

-- how many parentheses are open behind a byte, behind so many: '(' opens one, and ')' closes one
abbrev pub depth_behind : ℕ → ℕ → ℕ
depth_behind depth b = cond (b == 40) (depth + 1) (cond (b == 41) (depth - 1) depth)

-- a byte, or nothing where it is a space in parentheses
abbrev pub kept_byte : ℕ → ℕ → List ℕ
kept_byte depth b = cond (is_space b && nat_lt 0 depth) [] (b ∷ [])

-- a text, before which so many parentheses are open, without the spaces that stand in parentheses: Fortran reads a
-- format as if they were not there
abbrev pub joined : ℕ → List ℕ → List ℕ
joined depth [] = []
joined depth (b ∷ bs) = kept_byte depth b ++ joined (depth_behind depth b) bs

-- how many numbers the front of a format says: it is empty, or their number
abbrev pub SpellsRepeat : List ℕ → ℕ → Type 0
SpellsRepeat [] k = k ≡ 1
SpellsRepeat (b ∷ bs) k = SpellsNumber (b ∷ bs) (pos k)

-- what stands behind the letter of a format: how many bytes a field has, and maybe a point and the number of digits that
-- are written at least
pub data SpellsWidth (back : List ℕ) (width : ℕ) : Type 0 where
  bare : SpellsNumber back (pos width) → SpellsWidth back width
  pointed : (front digits : List ℕ) → (least : ℕ) → back ≡ front ++ 46 ∷ digits → SpellsNumber front (pos width) →
      SpellsNumber digits (pos least) → SpellsWidth back width

-- the text says fields of whole numbers, so many and of so many bytes, as 16I5
pub record SpellsItem (text : List ℕ) (count width : ℕ) : Type 0 where
  pub front : List ℕ
  pub letter : ℕ
  pub back : List ℕ
  pub parts : text ≡ front ++ letter ∷ back
  pub is_whole : to_ascii_lowercase letter ≡ 105
  pub repeated : SpellsRepeat front count
  pub wide : SpellsWidth back width
  pub some : 0 < count
  pub room : 0 < width

-- the word has them in parentheses, as (16I5)
pub record SpellsGroup (word : List ℕ) (count width : ℕ) : Type 0 where
  pub inner : List ℕ
  pub parts : word ≡ 40 ∷ (inner ++ 41 ∷ [])
  pub item : SpellsItem inner count width

-- the text says that so many bytes are skipped, as 1X
pub record SpellsSkip (text : List ℕ) (skipped : ℕ) : Type 0 where
  pub front : List ℕ
  pub letter : ℕ
  pub parts : text ≡ front ++ letter ∷ []
  pub is_skip : to_ascii_lowercase letter ≡ 120
  pub number : SpellsNumber front (pos skipped)

-- the word has such bytes before the fields, as (1X,16I5)
pub record SpellsSkipped (word : List ℕ) (skipped count width : ℕ) : Type 0 where
  pub front : List ℕ
  pub back : List ℕ
  pub parts : word ≡ 40 ∷ ((front ++ 44 ∷ back) ++ 41 ∷ [])
  pub skip : SpellsSkip front skipped
  pub item : SpellsItem back count width

-- the word has so many such groups, as (4(4I5)): so many fields in all, which 64 bits count
pub record AreGroups (word : List ℕ) (count width : ℕ) : Type 0 where
  pub front : List ℕ
  pub inner : List ℕ
  pub groups : ℕ
  pub each : ℕ
  pub parts : word ≡ 40 ∷ ((front ++ inner) ++ 41 ∷ [])
  pub has_groups : SpellsRepeat front groups
  pub group : SpellsGroup inner each width
  pub counted : count ≡ groups * each
  pub some : 0 < count
  pub fits : count < 2 ^ 64

-- the word is a format of fields one behind another: from the first byte of a line on, or behind those that are skipped
abbrev pub SpellsFormat : List ℕ → Fields → Type 0
SpellsFormat word f = ((f.skipped ≡ 0) × SpellsGroup word f.per_line f.width) ⊎
    (((f.skipped ≡ 0) × AreGroups word f.per_line f.width) ⊎ SpellsSkipped word f.skipped f.per_line f.width)

-- the field has one word, the number of one of so many things, of which the first is 1
abbrev pub SpellsField : List ℕ → ℕ → ℕ → Type 0
SpellsField field bound k = (w : List ℕ) × ((words field ≡ w ∷ []) × SpellsIndex w bound k)

-- the numbers stand in fields of one width, one behind another
abbrev pub SpellsFields : ℕ → ℕ → List ℕ → List ℕ → Type 0
SpellsFields width bound text [] = Unit {0}
SpellsFields width bound text (k ∷ ks) = SpellsField (take width text) bound k × SpellsFields width bound (drop width text) ks

-- what stands behind the fields of some numbers
abbrev pub behind_fields : ℕ → List ℕ → List ℕ → List ℕ
behind_fields width text [] = text
behind_fields width text (k ∷ ks) = behind_fields width (drop width text) ks

-- the numbers stand in the fields of a line
abbrev pub SpellsLine : Fields → ℕ → List ℕ → List ℕ → Type 0
SpellsLine f bound line ks = SpellsFields f.width bound (drop f.skipped line) ks

-- the numbers stand on the lines, and each line has as many as it may
abbrev pub FillsLines : Fields → ℕ → List (List ℕ) → List ℕ → Type 0
FillsLines f bound [] ks = ks ≡ []
FillsLines f bound (l ∷ ls) ks = (here : List ℕ) × (behind : List ℕ) × (ks ≡ here ++ behind) ×
    (length here ≡ f.per_line) × SpellsLine f bound l here × FillsLines f bound ls behind

-- of so many numbers, of which there is one, as many as a line may have stand on it, and the others are spelled behind it
pub record SpellsFirst (f : Fields) (bound count : ℕ) (line ks : List ℕ) (spelled_behind : List ℕ → Type 0) : Type 0 where
  pub some : 0 < count
  pub here : List ℕ
  pub behind : List ℕ
  pub are : ks ≡ here ++ behind
  pub size : length here ≡ min f.per_line count
  pub fields : SpellsLine f bound line here
  pub rest : spelled_behind behind

-- so many numbers stand on the lines: each line has as many as it may, and the last one the rest
abbrev pub SpellsTable : Fields → ℕ → ℕ → List (List ℕ) → List ℕ → Type 0
SpellsTable f bound count [] ks = (count ≡ 0) × (ks ≡ [])
SpellsTable f bound count (l ∷ ls) ks = SpellsFirst f bound count l ks
    (λ behind. SpellsTable f bound (count - min f.per_line count) ls behind)

-- what stands behind the first four words of the second line: nothing, or the number of lines of right-hand sides
abbrev pub SpellsSides : List (List ℕ) → ℕ → Type 0
SpellsSides [] sides = sides ≡ 0
SpellsSides (w ∷ []) sides = SpellsNumber w (pos sides)
SpellsSides (w ∷ v ∷ ws) sides = ⊥

-- the word is the number of some things
abbrev pub IsCount : List ℕ → Type 0
IsCount word = (k : ℕ) × SpellsNumber word (pos k)

-- there is no word, or the first one is no such number
abbrev pub BeginsWithNoCount : List (List ℕ) → Type 0
BeginsWithNoCount ws = (w : List ℕ) → (others : List (List ℕ)) → ws ≡ w ∷ others → IsCount w → ⊥

-- the words are four numbers of lines, and maybe a fifth, that of right-hand sides
pub record SpellsCounts (ws : List (List ℕ)) (sides : ℕ) : Type 0 where
  pub first : List ℕ
  pub second : List ℕ
  pub third : List ℕ
  pub fourth : List ℕ
  pub behind : List (List ℕ)
  pub parts : ws ≡ first ∷ (second ∷ (third ∷ (fourth ∷ behind)))
  pub has_first : IsCount first
  pub has_second : IsCount second
  pub has_third : IsCount third
  pub has_fourth : IsCount fourth
  pub has_sides : SpellsSides behind sides

-- 'r', 'c', 'i', 'p' and 'q'
abbrev pub letter_values : ℕ → Option Values
letter_values l = cond (l == 114) (Some values.Real) (cond (l == 99) (Some values.Complex)
    (cond (l == 105) (Some values.Integer) (cond (l == 112) (Some values.Pattern)
    (cond (l == 113) (Some values.Elsewhere) None))))

-- 'u' and 'r', 's', 'z', and 'h'
abbrev pub letter_symmetry : ℕ → Option Symmetry
letter_symmetry l = cond (l == 117 || l == 114) (Some kind.General) (cond (l == 115) (Some kind.Symmetric)
    (cond (l == 122) (Some kind.SkewSymmetric) (cond (l == 104) (Some kind.Hermitian) None)))

-- the word is the type of an assembled matrix with these values and this symmetry, in letters of any case
pub record SpellsType (word : List ℕ) (t : Letters) : Type 0 where
  pub value : ℕ
  pub shape : ℕ
  pub letters : map to_ascii_lowercase word ≡ value ∷ (shape ∷ (97 ∷ []))
  pub has_value : letter_values value ≡ Some t.values
  pub has_shape : letter_symmetry shape ≡ Some t.symmetry

-- the words begin with the numbers of rows, of columns and of entries
pub record SpellsSizes (ws : List (List ℕ)) (rows columns entries : ℕ) : Type 0 where
  pub first : List ℕ
  pub second : List ℕ
  pub third : List ℕ
  pub behind : List (List ℕ)
  pub parts : ws ≡ first ∷ (second ∷ (third ∷ behind))
  pub has_rows : SpellsNumber first (pos rows)
  pub has_columns : SpellsNumber second (pos columns)
  pub has_entries : SpellsNumber third (pos entries)

-- the third line is a type, and the numbers of rows, of columns and of entries
pub record SpellsKind (line : List ℕ) (t : Letters) (rows columns entries : ℕ) : Type 0 where
  pub word : List ℕ
  pub behind : List (List ℕ)
  pub parts : words line ≡ word ∷ behind
  pub has_type : SpellsType word t
  pub has_sizes : SpellsSizes behind rows columns entries

-- the words begin with the formats of pointers and of rows
pub record SpellsFormats (ws : List (List ℕ)) (l : Layout) : Type 0 where
  pub first : List ℕ
  pub second : List ℕ
  pub behind : List (List ℕ)
  pub parts : ws ≡ first ∷ (second ∷ behind)
  pub has_pointers : SpellsFormat first l.pointers
  pub has_rows : SpellsFormat second l.rows

-- the fourth line does: spaces in parentheses do not part its words
abbrev pub SpellsLayout : List ℕ → Layout → Type 0
SpellsLayout line l = SpellsFormats (words (joined 0 line)) l

-- a pair for each of these rows, in one column
abbrev pub column_entries : List ℕ → ℕ → List (ℕ × ℕ)
column_entries rows j = map (λ i. (i, j)) rows

-- the entries of the first columns: for each of them, the rows between its pointer and the next
abbrev pub listed_entries : List ℕ → List ℕ → ℕ → List (ℕ × ℕ)
listed_entries ps rows zero = []
listed_entries ps rows (suc j) = listed_entries ps rows j ++ column_entries (slice_range rows (slice_index ps j) (slice_index ps (j + 1))) j

-- there is one pointer more than columns, and they rise from 0 to the number of entries
pub record ArePointers (n entries : ℕ) (ps : List ℕ) : Type 0 where
  pub size : length ps ≡ n + 1
  pub first : slice_index ps 0 ≡ 0
  pub last : slice_index ps n ≡ entries
  pub rising : (j : ℕ) → j < n → slice_index ps j ≤ slice_index ps (j + 1)

-- the lines are the three behind the title, and a fifth one where there are right-hand sides
pub record SpellsHead (lines : List (List ℕ)) (k : Kind) (l : Layout) : Type 0 where
  pub counts : List ℕ
  pub third : List ℕ
  pub fourth : List ℕ
  pub more : List (List ℕ)
  pub parts : lines ≡ (counts ∷ []) ++ ((third ∷ []) ++ ((fourth ∷ []) ++ more))
  pub sides : ℕ
  pub has_counts : SpellsCounts (words counts) sides
  pub has_kind : SpellsKind third k.letters k.n k.n k.entries
  pub has_layout : SpellsLayout fourth l
  pub has_more : length more ≡ cond (sides == 0) 0 1

-- the lines are those of the pointers and of the rows, and the pairs are those that the entries stand for
pub record SpellsColumns (lines : List (List ℕ)) (k : Kind) (l : Layout) (pairs : List (ℕ × ℕ)) : Type 0 where
  pub pointer_lines : List (List ℕ)
  pub row_lines : List (List ℕ)
  pub parts : lines ≡ pointer_lines ++ row_lines
  pub pointers : List ℕ
  pub rows : List ℕ
  pub has_pointers : SpellsTable l.pointers (k.entries + 1) (k.n + 1) pointer_lines pointers
  pub has_rows : SpellsTable l.rows k.n k.entries row_lines rows
  pub are_pointers : ArePointers k.n k.entries pointers
  pub pairs_are : pairs ≡ flat_map (pairs_of k.letters.symmetry) (listed_entries pointers rows k.n)

-- the lines behind the title are those of a file, with the type that is told, and the matrix is that of the pairs that
-- the entries stand for
pub record SpellsBoeing (lines : List (List ℕ)) (s : Source) (n : ℕ) (ap ai : List ℕ) (repeats : ℕ) : Type 0 where
  pub head : List (List ℕ)
  pub columns : List (List ℕ)
  pub parts : lines ≡ head ++ columns
  pub kind : Kind
  pub layout : Layout
  pub has_head : SpellsHead head kind layout
  pub told : s ≡ source.Boeing kind.letters
  pub pairs : List (ℕ × ℕ)
  pub has_columns : SpellsColumns columns kind layout pairs
  pub size : n ≡ kind.n
  pub matrix : HoldsOnce n pairs ap ai repeats
