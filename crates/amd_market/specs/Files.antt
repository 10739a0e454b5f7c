-- The text of a file, and the matrix that it spells.
use Rattle.std.specs.Prelude.{◌≡◌, ◌^◌, ◌++◌, ℕ, Bool, Some, IfSome, List, [], ◌∷◌, length, flat_map, Option}
use Rattle.amd_market.specs.Headers.{SpellsHeader, pairs_of}
use Rattle.amd_market.specs.Entries.{SpellsSize, SpellsEntries}
use Rattle.amd_lines.specs.Lines.{BeginsWith, line_number, TakesLines, telling, rest_of, percent}
use Rattle.amd_market.specs.Arrays.{SpellsShape, SpellsValues, SpellsArray, kept}
use Rattle.amd_market.specs.Boeing.{SpellsBoeing}
use Rattle.amd_market.specs.Faults.{named_line, HasHeaderFault}
use Rattle.amd_market.specs.Stops.{Stop, FileStops, Blames}
use Rattle.amd_market.specs.Columns.{HoldsOnce}
use Rattle.amd_market.specs.declared.headers.Format.{Format}
use Rattle.amd_market.specs.declared.headers.Format.TheVariants.{Coordinate, Array}
use Rattle.amd_market.specs.declared.headers.Header.{Header}
use Rattle.amd_market.specs.declared.sources.Source.{Source}
use Rattle.amd_market.specs.declared.sources.Source.TheVariants as source
use Rattle.amd_lines.specs.declared.lines.LineReader.{LineReader}
use Rattle.amd_market.specs.declared.faults.ReadFault.TheVariants as fault
use Rattle.amd_market.specs.declared.faults.ReadError.{ReadError}

-- lines were read whose telling ones are the entries, one by one, and the pairs are those that the entries stand for
pub record TakesEntries {R Z : Type 0} (remaining : R → Option (List ℕ)) (old new : LineReader R Z) (header : Header)
    (n count : ℕ)
    (pairs : List (ℕ × ℕ)) : Type 0 where
  pub lines : List (List ℕ)
  pub takes : TakesLines remaining old new lines
  pub entries : List (ℕ × ℕ)
  pub counted : length entries ≡ count
  pub spells : SpellsEntries header.field n (telling percent lines) entries
  pub pairs_are : pairs ≡ flat_map (pairs_of header.symmetry) entries

-- lines were read whose telling ones are the values at some places, one by one, and behind the pairs that were there
-- stand those of the places whose value is not zero
pub record TakesValues {R Z : Type 0} (remaining : R → Option (List ℕ)) (old new : LineReader R Z) (header : Header)
    (places before after : List (ℕ × ℕ)) : Type 0 where
  pub lines : List (List ℕ)
  pub takes : TakesLines remaining old new lines
  pub flags : List Bool
  pub counted : length flags ≡ length places
  pub spells : SpellsValues header.field (telling percent lines) flags
  pub added : after ≡ before ++ flat_map (pairs_of header.symmetry) (kept flags places)

-- the lines behind a header are the line of the size and those of the entries, in one of two formats
abbrev pub SpellsBody : Format → Header → ℕ → List ℕ → List (List ℕ) → List (ℕ × ℕ) → Type 0
SpellsBody Coordinate h n size_line lines entries =
    SpellsSize size_line n n (length entries) × SpellsEntries h.field n lines entries
SpellsBody Array h n size_line lines entries =
    SpellsShape size_line n n × SpellsArray h.field h.symmetry n lines entries

-- all lines that were left were read: those behind a header; and the pairs are those that the entries stand for
pub record TakesBody {R Z : Type 0} (remaining : R → Option (List ℕ)) (old new : LineReader R Z) (header : Header) (n : ℕ)
    (pairs : List (ℕ × ℕ)) : Type 0 where
  pub lines : List (List ℕ)
  pub takes : TakesLines remaining old new lines
  pub end : IfSome (rest_of remaining old) (λ bytes. rest_of remaining new ≡ Some [])
  pub size_line : List ℕ
  pub entry_lines : List (List ℕ)
  pub parts : telling percent lines ≡ size_line ∷ entry_lines
  pub entries : List (ℕ × ℕ)
  pub has_body : SpellsBody header.format header n size_line entry_lines entries
  pub pairs_are : pairs ≡ flat_map (pairs_of header.symmetry) entries

-- the text is a header, the line of the size and the lines of the entries, with notes between them; the matrix is that
-- of the pairs that the entries stand for
pub record SpellsMatrix (bytes : List ℕ) (header : Header) (n : ℕ) (ap ai : List ℕ) (repeats : ℕ) : Type 0 where
  pub first : List ℕ
  pub others : List (List ℕ)
  pub lines : BeginsWith (first ∷ others) bytes (Some [])
  pub has_header : SpellsHeader first header
  pub size_line : List ℕ
  pub entry_lines : List (List ℕ)
  pub parts : telling percent others ≡ size_line ∷ entry_lines
  pub entries : List (ℕ × ℕ)
  pub has_body : SpellsBody header.format header n size_line entry_lines entries
  pub matrix : HoldsOnce n (flat_map (pairs_of header.symmetry) entries) ap ai repeats

-- the text is one of the Matrix Market, or a Harwell-Boeing file with a title, and says so of its matrix
pub data SpellsFile (bytes : List ℕ) (s : Source) (n : ℕ) (ap ai : List ℕ) (repeats : ℕ) : Type 0 where
  market : (header : Header) → s ≡ source.Market header → SpellsMatrix bytes header n ap ai repeats →
      SpellsFile bytes s n ap ai repeats
  boeing : (title : List ℕ) → (lines : List (List ℕ)) → (rest : Option (List ℕ)) →
      HasHeaderFault fault.Banner title → BeginsWith (title ∷ lines) bytes rest →
      SpellsBoeing lines s n ap ai repeats → SpellsFile bytes s n ap ai repeats

-- some lines were read, the error names the last of them, and the reading stopped there, as it says
pub record FailsFor {R Z : Type 0} (Stops : Stop → Type 0) (remaining : R → Option (List ℕ)) (old : LineReader R Z)
    (e : ReadError) : Type 0 where
  pub lines : List (List ℕ)
  pub rest : Option (List ℕ)
  pub named : named_line e ≡ line_number old.lines lines
  pub took : IfSome (rest_of remaining old) (λ bytes. BeginsWith lines bytes rest)
  pub cause : Blames Stops old.longest e lines rest

-- the text begins with some lines, the error names the last of them by its number, from 1 on, or 0 where there are
-- none; and the reading stopped there, as it says: the lines before can be read on, and this one cannot, or the text
-- ends there
pub record NamesFault (bytes : List ℕ) (e : ReadError) : Type 0 where
  pub lines : List (List ℕ)
  pub rest : Option (List ℕ)
  pub named : named_line e ≡ line_number 0 lines
  pub begins : BeginsWith lines bytes rest
  pub cause : Blames FileStops (2 ^ 16) e lines rest
