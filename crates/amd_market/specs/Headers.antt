-- The first line of a file, and what it says of the entries.
use Rattle.std.specs.Prelude.{◌≡◌, ◌==◌, ◌&&◌, not, ℕ, Bool, true, false, List, [], ◌∷◌, codes, cond, map, drop, slice_index}
use Rattle.std.specs.Char.{to_ascii_lowercase}
use Rattle.amd_lines.specs.Words.{words}
use Rattle.amd_market.specs.declared.headers.Format.{Format}
use Rattle.amd_market.specs.declared.headers.Format.TheVariants.{Coordinate, Array}
use Rattle.amd_market.specs.declared.headers.Field.{Field}
use Rattle.amd_market.specs.declared.headers.Field.TheVariants.{Real, Double, Integer, Unsigned, Complex, Pattern}
use Rattle.amd_market.specs.declared.headers.Symmetry.{Symmetry}
use Rattle.amd_market.specs.declared.headers.Symmetry.TheVariants as kind
use Rattle.amd_market.specs.declared.headers.Header.{Header}

-- the word of a format
abbrev pub format_text : Format → List ℕ
format_text Coordinate = codes "coordinate"
format_text Array = codes "array"

-- whether a format lists every place
abbrev pub is_array : Format → Bool
is_array Coordinate = false
is_array Array = true

-- the word of a field
abbrev pub field_text : Field → List ℕ
field_text Real = codes "real"
field_text Double = codes "double"
field_text Integer = codes "integer"
field_text Unsigned = codes "unsigned-integer"
field_text Complex = codes "complex"
field_text Pattern = codes "pattern"

-- how many words an entry has behind its row and its column
abbrev pub value_words : Field → ℕ
value_words Real = 1
value_words Double = 1
value_words Integer = 1
value_words Unsigned = 1
value_words Complex = 2
value_words Pattern = 0

-- whether there is a line for each place, but no value
abbrev pub is_void : Header → Bool
is_void h = is_array h.format && (value_words h.field == 0)

-- the word of a symmetry
abbrev pub symmetry_text : Symmetry → List ℕ
symmetry_text kind.General = codes "general"
symmetry_text kind.Symmetric = codes "symmetric"
symmetry_text kind.SkewSymmetric = codes "skew-symmetric"
symmetry_text kind.Hermitian = codes "hermitian"

-- whether an entry stands for its mirror image too
abbrev pub is_mirrored : Symmetry → Bool
is_mirrored kind.General = false
is_mirrored kind.Symmetric = true
is_mirrored kind.SkewSymmetric = true
is_mirrored kind.Hermitian = true

-- a line without the byte-order mark that may stand before its text
abbrev pub without_mark : List ℕ → List ℕ
without_mark line =
    cond (slice_index line 0 == 239 && slice_index line 1 == 187 && slice_index line 2 == 191) (drop 3 line) line

-- words but for the case of their letters
abbrev pub lowered : List (List ℕ) → List (List ℕ)
lowered ws = map (λ w. map to_ascii_lowercase w) ws

-- the line is that of a matrix with this format, this field and this symmetry, in letters of any case
abbrev pub SpellsHeader : List ℕ → Header → Type 0
SpellsHeader line h =
    lowered (words (without_mark line)) ≡ lowered (codes "%%MatrixMarket" ∷ (codes "matrix" ∷
    (format_text h.format ∷ (field_text h.field ∷ (symmetry_text h.symmetry ∷ [])))))

-- the pairs of a row and a column that an entry stands for: its own, and off the diagonal, where there is a symmetry,
-- the mirror image
abbrev pub pairs_of : Symmetry → (ℕ × ℕ) → List (ℕ × ℕ)
pairs_of s e = cond (is_mirrored s && not (e.0 == e.1)) ((e.0, e.1) ∷ ((e.1, e.0) ∷ [])) ((e.0, e.1) ∷ [])
