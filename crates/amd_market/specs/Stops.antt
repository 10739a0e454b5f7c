-- Where the reading of a file stopped, and what is wrong there.
use Rattle.std.specs.Prelude.{◌≡◌, ◌<◌, ◌-◌, ◌+◌, ◌⊎◌, ℕ, Bool, false, List, [], ◌∷◌, ◌++◌, Option, None, Some, length, min}
use Rattle.std.specs.Io.BufRead.{take_through}
use Rattle.amd_lines.specs.Words.{words}
use Rattle.amd_lines.specs.Lines.{telling, percent}
use Rattle.amd_market.specs.Headers.{SpellsHeader, is_void}
use Rattle.amd_market.specs.Entries.{SpellsSize, SpellsEntries}
use Rattle.amd_market.specs.Arrays.{SpellsShape, SpellsValues, HasShapeFault, array_places}
use Rattle.amd_market.specs.Boeing.{SpellsCounts, SpellsKind, SpellsLayout, SpellsHead, SpellsTable, FillsLines, ArePointers}
use Rattle.amd_market.specs.Faults.{HasFirstFault, HasHeaderFault, HasSizeFault, HasEntryFault, HasCellFault}
use Rattle.amd_market.specs.Faults.{HasCardFault, HasLayoutFault, HasLineFault, HasUnknownFault, IsOfMachine}
use Rattle.amd_market.specs.declared.headers.Format.{Format}
use Rattle.amd_market.specs.declared.headers.Format.TheVariants.{Coordinate, Array}
use Rattle.amd_market.specs.declared.headers.Header.{Header}
use Rattle.amd_market.specs.declared.headers.Field.{Field}
use Rattle.amd_market.specs.declared.cards.Kind.{Kind}
use Rattle.amd_market.specs.declared.formats.Layout.{Layout}
use Rattle.amd_market.specs.declared.formats.Fields.{Fields}
use Rattle.amd_market.specs.declared.fields.Listed.{Listed}
use Rattle.amd_market.specs.declared.fields.Listed.TheVariants as listed
use Rattle.amd_market.specs.declared.faults.ReadFault.{ReadFault}
use Rattle.amd_market.specs.declared.faults.ReadFault.TheVariants as fault
use Rattle.amd_market.specs.declared.faults.ReadError.{ReadError}
use Rattle.amd_market.specs.declared.faults.ReadError.TheVariants.{Line, Input}

-- a stop: the fault that was told, the lines that were read, what is left behind them, and how many bytes a line may
-- have
pub record Stop : Type 0 where
  pub fault : ReadFault
  pub lines : List (List ℕ)
  pub rest : Option (List ℕ)
  pub longest : ℕ

-- the same stop, where these lines were read before
abbrev pub after : List (List ℕ) → Stop → Stop
after ls s = record { fault = s.fault; lines = ls ++ s.lines; rest = s.rest; longest = s.longest }

-- which lines count: all of them, or those that say something
abbrev pub all : List (List ℕ) → List (List ℕ)
all ls = ls

abbrev pub says : List (List ℕ) → List (List ℕ)
says ls = telling percent ls

-- no fault stops the reading there
abbrev pub NoLine : ReadFault → List ℕ → Type 0
NoLine f line = ⊥

abbrev pub NoEnd : ReadFault → Type 0
NoEnd f = ⊥

-- the lines that count are these, and the reading stopped at the next one, which has a fault or too many bytes, or at
-- the end of the text
pub data StopsBehind (counted : List (List ℕ) → List (List ℕ)) (HasFault : ReadFault → List ℕ → Type 0)
    (IsEnd : ReadFault → Type 0) (before : List (List ℕ)) (s : Stop) : Type 0 where
  at_line : (passed : List (List ℕ)) → (line : List ℕ) → s.lines ≡ passed ++ line ∷ [] → counted passed ≡ before →
      counted (line ∷ []) ≡ line ∷ [] → HasFault s.fault line → StopsBehind counted HasFault IsEnd before s
  at_long : (passed : List (List ℕ)) → (line : List ℕ) → s.lines ≡ passed ++ line ∷ [] → counted passed ≡ before →
      counted (line ∷ []) ≡ line ∷ [] → s.longest < length line → s.fault ≡ fault.Long →
      StopsBehind counted HasFault IsEnd before s
  at_end : counted s.lines ≡ before → s.rest ≡ Some [] → IsEnd s.fault → StopsBehind counted HasFault IsEnd before s

-- at the first line
abbrev pub FirstStops : Stop → Type 0
FirstStops = StopsBehind all HasFirstFault (λ f. f ≡ fault.Empty) []

-- at the size of a list of entries, or of an array
abbrev pub SizeStops : Stop → Type 0
SizeStops = StopsBehind says HasSizeFault (λ f. f ≡ fault.Size) []

abbrev pub ShapeStops : Stop → Type 0
ShapeStops = StopsBehind says HasShapeFault (λ f. f ≡ fault.Shape) []

-- at the next entry behind so many of those that the size tells
abbrev pub EntryStops : Field → ℕ → ℕ → ℕ → List (List ℕ) → Stop → Type 0
EntryStops field n done told before = StopsBehind says (HasEntryFault field n) (λ f. f ≡ fault.Missing done told) before

-- at the value of a place
abbrev pub ValueStops : Field → ℕ × ℕ → List (List ℕ) → Stop → Type 0
ValueStops field place before =
    StopsBehind says (HasCellFault field) (λ f. f ≡ fault.NoPlace (place.0 + 1) (place.1 + 1)) before

-- where nothing may stand
abbrev pub MoreStops : ReadFault → List (List ℕ) → Stop → Type 0
MoreStops more before = StopsBehind says (λ f line. f ≡ more) NoEnd before

-- among the entries: some are there, and the next one is not
pub record EntriesStop (field : Field) (n told : ℕ) (before : List (List ℕ)) (s : Stop) : Type 0 where
  pub lines : List (List ℕ)
  pub entries : List (ℕ × ℕ)
  pub spells : SpellsEntries field n lines entries
  pub few : length entries < told
  pub stops : EntryStops field n (length entries) told (before ++ lines) s

-- among the values at some places: some are there, and that of the next place is not
pub record ValuesStop (field : Field) (places : List (ℕ × ℕ)) (before : List (List ℕ)) (s : Stop) : Type 0 where
  pub lines : List (List ℕ)
  pub flags : List Bool
  pub spells : SpellsValues field lines flags
  pub done : List (ℕ × ℕ)
  pub place : ℕ × ℕ
  pub others : List (ℕ × ℕ)
  pub parts : places ≡ done ++ place ∷ others
  pub counted : length flags ≡ length done
  pub stops : ValueStops field place (before ++ lines) s

-- behind the header of a list of entries: at the size, among the entries that it tells, or behind them all
pub data ListedStops (h : Header) (s : Stop) : Type 0 where
  in_size : SizeStops s → ListedStops h s
  in_entries : (size_line : List ℕ) → (n told : ℕ) → SpellsSize size_line n n told →
      EntriesStop h.field n told (size_line ∷ []) s → ListedStops h s
  behind_entries : (size_line : List ℕ) → (lines : List (List ℕ)) → (n : ℕ) → (entries : List (ℕ × ℕ)) →
      SpellsSize size_line n n (length entries) → SpellsEntries h.field n lines entries →
      MoreStops (fault.More (length entries)) (size_line ∷ lines) s → ListedStops h s

-- behind the header of an array: at the size, among the values of its places, or behind them all
pub data ArrayStops (h : Header) (s : Stop) : Type 0 where
  in_shape : ShapeStops s → ArrayStops h s
  in_values : (size_line : List ℕ) → (n : ℕ) → SpellsShape size_line n n →
      ValuesStop h.field (array_places h.symmetry n n) (size_line ∷ []) s → ArrayStops h s
  behind_values : (size_line : List ℕ) → (lines : List (List ℕ)) → (n : ℕ) → (flags : List Bool) →
      SpellsShape size_line n n → SpellsValues h.field lines flags →
      length flags ≡ length (array_places h.symmetry n n) → MoreStops fault.MorePlaces (size_line ∷ lines) s →
      ArrayStops h s

-- behind a header
abbrev pub BodyStops : Format → Header → Stop → Type 0
BodyStops Coordinate h s = ListedStops h s
BodyStops Array h s = ArrayStops h s

-- at a line of a Harwell-Boeing file
abbrev pub CardStops : (ReadFault → List ℕ → Type 0) → List (List ℕ) → Stop → Type 0
CardStops HasFault before = StopsBehind all HasFault (λ f. f ≡ fault.Short) before

-- at its head: the second line is too long, or the third, the fourth or that about right-hand sides is not there
pub data HeadStops (s : Stop) : Type 0 where
  in_counts : StopsBehind all NoLine NoEnd [] s → HeadStops s
  in_kind : (counts : List ℕ) → (sides : ℕ) → SpellsCounts (words counts) sides →
      CardStops HasCardFault (counts ∷ []) s → HeadStops s
  in_layout : (counts third : List ℕ) → (sides : ℕ) → (k : Kind) → SpellsCounts (words counts) sides →
      SpellsKind third k.letters k.n k.n k.entries → CardStops HasLayoutFault (counts ∷ (third ∷ [])) s → HeadStops s
  in_extra : (counts third fourth : List ℕ) → (sides : ℕ) → (k : Kind) → (l : Layout) →
      SpellsCounts (words counts) sides → SpellsKind third k.letters k.n k.n k.entries → SpellsLayout fourth l →
      0 < sides → CardStops NoLine (counts ∷ (third ∷ (fourth ∷ []))) s → HeadStops s

-- among so many numbers: the lines before are full of numbers, and the next one has not those that it should have
pub record TableStop (listed : Listed) (fields : Fields) (count bound : ℕ) (before : List (List ℕ)) (s : Stop) : Type 0
  where
    pub lines : List (List ℕ)
    pub numbers : List ℕ
    pub full : FillsLines fields bound lines numbers
    pub few : length numbers < count
    pub stops : CardStops (HasLineFault listed fields (min fields.per_line (count - length numbers)) bound)
        (before ++ lines) s

-- among the pointers, or at the last line of them, where they do not rise from 1 to one more than the entries
pub data PointersStop (k : Kind) (fields : Fields) (before : List (List ℕ)) (s : Stop) : Type 0 where
  in_table : TableStop listed.Pointers fields (k.n + 1) (k.entries + 1) before s → PointersStop k fields before s
  behind_table : (lines : List (List ℕ)) → (pointers : List ℕ) →
      SpellsTable fields (k.entries + 1) (k.n + 1) lines pointers →
      (ArePointers k.n k.entries pointers → ⊥) → s.fault ≡ fault.Pointers → s.lines ≡ before ++ lines →
      PointersStop k fields before s

-- among the pointers, or among the rows
pub data ColumnsStop (k : Kind) (l : Layout) (before : List (List ℕ)) (s : Stop) : Type 0 where
  in_pointers : PointersStop k l.pointers before s → ColumnsStop k l before s
  in_rows : (lines : List (List ℕ)) → (pointers : List ℕ) →
      SpellsTable l.pointers (k.entries + 1) (k.n + 1) lines pointers →
      ArePointers k.n k.entries pointers → TableStop listed.Rows l.rows k.entries k.n (before ++ lines) s →
      ColumnsStop k l before s

-- behind the title of a Harwell-Boeing file: at its head, or behind it
pub data BoeingStops (s : Stop) : Type 0 where
  in_cards : HeadStops s → BoeingStops s
  in_columns : (head : List (List ℕ)) → (k : Kind) → (l : Layout) → SpellsHead head k l → ColumnsStop k l head s →
      BoeingStops s

-- the next line of a text, where it is known, is not the second one of a Harwell-Boeing file
abbrev pub LacksCounts : Option (List ℕ) → Type 0
LacksCounts None = Unit {0}
LacksCounts (Some bytes) = (sides : ℕ) → SpellsCounts (words (take_through 10 bytes)) sides → ⊥

-- in a file: at the first line; or this is no header, and the second line is none of a Harwell-Boeing file; or behind a
-- header; or behind the title of a Harwell-Boeing file
pub data FileStops (s : Stop) : Type 0 where
  in_first : FirstStops s → FileStops s
  in_none : (line : List ℕ) → s.lines ≡ line ∷ [] → HasHeaderFault fault.Banner line → HasUnknownFault s.fault line →
      LacksCounts s.rest → FileStops s
  in_market : (line : List ℕ) → (h : Header) → (t : Stop) → SpellsHeader line h → is_void h ≡ false →
      s ≡ after (line ∷ []) t → BodyStops h.format h t → FileStops s
  in_boeing : (title : List ℕ) → (t : Stop) → HasHeaderFault fault.Banner title → s ≡ after (title ∷ []) t →
      BoeingStops t → FileStops s

-- what an error says of the lines that were read: where memory was refused, or the input could not be read, nothing
abbrev pub Blames : (Stop → Type 0) → ℕ → ReadError → List (List ℕ) → Option (List ℕ) → Type 0
Blames Stops longest (Line n f found) lines rest =
    IsOfMachine f ⊎ Stops (record { fault = f; lines = lines; rest = rest; longest = longest })
Blames Stops longest (Input n error) lines rest = Unit {0}
