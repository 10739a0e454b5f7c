-- The lines of a text, and what a reader takes off its input, where the bytes of that are known.
use Rattle.std.specs.Prelude.{◌≡◌, ◌≢◌, ◌==◌, not, ℕ, Bool, true, false, Option, None, Some, IfSome, List, [], ◌∷◌, ◌++◌, filter}
use Rattle.std.specs.Prelude.{All, slice_index, ◌<◌, ◌≤◌, ◌+◌, ◌-◌, ◌^◌, min, length, take, drop, if◌then◌else◌}
use Rattle.std.specs.Io.BufRead.{take_through, drop_through}
use Rattle.std.specs.Io.KnownBytes.{prepend_known}
use Rattle.amd_lines.specs.Words.{words}
use Rattle.amd_lines.specs.Blocks.{held_of, passed_of}
use Rattle.amd_lines.specs.declared.lines.LineReader.{LineReader}
use Rattle.amd_lines.specs.declared.errors.LineCause.{LineCause}
use Rattle.amd_lines.specs.declared.errors.LineCause.TheVariants as cause

-- the byte '%', with which notes begin in matrix files
abbrev pub percent : Option ℕ
percent = Some 37

-- a line says nothing without a word, or where its first word begins with the byte that marks a note
abbrev pub is_note : Option ℕ → List (List ℕ) → Bool
is_note _ [] = true
is_note None (w ∷ ws) = false
is_note (Some b) (w ∷ ws) = slice_index w 0 == b

-- whether a line says something
abbrev pub tells : Option ℕ → List ℕ → Bool
tells mark line = not (is_note mark (words line))

-- the lines that say something
abbrev pub telling : Option ℕ → List (List ℕ) → List (List ℕ)
telling mark ls = filter (tells mark) ls

-- the bytes begin with these lines, each up to and with its line feed, or up to the end of the bytes; and this is left
abbrev pub BeginsWith : List (List ℕ) → List ℕ → Option (List ℕ) → Type 0
BeginsWith [] bytes rest = rest ≡ Some bytes
BeginsWith (l ∷ ls) bytes rest = (0 < length bytes) × (l ≡ take_through 10 bytes) ×
    BeginsWith ls (drop_through 10 bytes) rest

-- one line more, up to the greatest number of 64 bits
abbrev pub one_line_more : ℕ → ℕ
one_line_more n = min (n + 1) (2 ^ 64 - 1)

-- the number of lines behind so many others and these, up to the greatest number of 64 bits
abbrev pub line_number : ℕ → List (List ℕ) → ℕ
line_number n [] = n
line_number n (l ∷ ls) = line_number (one_line_more n) ls

-- where there was a line, it is the bytes up to and with the next line feed, or all of them; else no byte was left
abbrev pub TookLine : List ℕ → List ℕ → Option (List ℕ) → Bool → Type 0
TookLine bytes line rest true = (0 < length bytes) × (line ≡ take_through 10 bytes) ×
    (rest ≡ Some (drop_through 10 bytes))
TookLine bytes line rest false = (bytes ≡ []) × (rest ≡ Some [])

-- the bytes that a reader has before it: those that its block holds, and then those of its input
abbrev pub rest_of : {R Z : Type 0} → (R → Option (List ℕ)) → LineReader R Z → Option (List ℕ)
rest_of remaining r = prepend_known (held_of r.block) (remaining r.input)

-- the number of lines read
abbrev pub lines_read : {R Z : Type 0} → LineReader R Z → ℕ
lines_read r = r.lines

-- how many bytes a line may have
abbrev pub longest_of : {R Z : Type 0} → LineReader R Z → ℕ
longest_of r = r.longest

-- the line that was read last
abbrev pub line_of : {R Z : Type 0} → LineReader R Z → List ℕ
line_of r = passed_of r.block

-- none of the first bytes is a line feed
abbrev pub HasNoFeed : ℕ → List ℕ → Type 0
HasNoFeed count bytes = (k : ℕ) → k < count → slice_index bytes k ≢ 10

-- so many of the bytes that the block holds are the next line
pub record EndsLine {R Z : Type 0} (remaining : R → Option (List ℕ)) (old : LineReader R Z) (count : ℕ) : Type 0 where
  pub within : count ≤ length (held_of old.block)
  pub some : 0 < count
  pub none : (k : ℕ) → k + 1 < count → slice_index (held_of old.block) k ≢ 10
  pub line : IfSome (rest_of remaining old) (λ bytes. take_through 10 bytes ≡ take count (held_of old.block))
  pub rest : IfSome (rest_of remaining old) (λ bytes.
      prepend_known (drop count (held_of old.block)) (remaining old.input) ≡ Some (drop_through 10 bytes))

-- no line was read, and the bytes before the reader are the same
pub record KeepsRest {R Z : Type 0} (remaining : R → Option (List ℕ)) (old new : LineReader R Z) : Type 0 where
  pub counted : new.lines ≡ old.lines
  pub longest : new.longest ≡ old.longest
  pub kept : IfSome (rest_of remaining old) (λ bytes. rest_of remaining new ≡ Some bytes)

-- the next line was read and counted, or there was none
pub record TakesLine {R Z : Type 0} (remaining : R → Option (List ℕ)) (old new : LineReader R Z) (some : Bool) : Type 0
  where
    pub counted : new.lines ≡ (if some then one_line_more old.lines else old.lines)
    pub longest : new.longest ≡ old.longest
    pub took : IfSome (rest_of remaining old) (λ bytes. TookLine bytes (line_of new) (rest_of remaining new) some)

-- these lines were read and counted
pub record TakesLines {R Z : Type 0} (remaining : R → Option (List ℕ)) (old new : LineReader R Z)
    (ls : List (List ℕ)) : Type 0 where
  pub counted : new.lines ≡ line_number old.lines ls
  pub longest : new.longest ≡ old.longest
  pub took : IfSome (rest_of remaining old) (λ bytes. BeginsWith ls bytes (rest_of remaining new))

-- lines were read, of which the last alone says something
pub record TakesTelling {R Z : Type 0} (mark : Option ℕ) (remaining : R → Option (List ℕ)) (old new : LineReader R Z)
    (line : List ℕ) : Type 0 where
  pub lines : List (List ℕ)
  pub takes : TakesLines remaining old new lines
  pub tells : telling mark lines ≡ line ∷ []
  pub before : List (List ℕ)
  pub parts : lines ≡ before ++ line ∷ []
  pub says : is_note mark (words line) ≡ false

-- all lines that were left were read, and none of them says anything
pub record TakesNotes {R Z : Type 0} (mark : Option ℕ) (remaining : R → Option (List ℕ)) (old new : LineReader R Z) : Type 0
  where
    pub lines : List (List ℕ)
    pub takes : TakesLines remaining old new lines
    pub tells : telling mark lines ≡ []
    pub end : IfSome (rest_of remaining old) (λ bytes. rest_of remaining new ≡ Some [])

-- the next line that says something was read, or there was none
abbrev pub TakesNext : {R Z : Type 0} → Option ℕ → (R → Option (List ℕ)) → LineReader R Z → LineReader R Z → Bool → Type 0
TakesNext mark remaining old new true = TakesTelling mark remaining old new (line_of new)
TakesNext mark remaining old new false = TakesNotes mark remaining old new

-- some lines were read, and this is the number of the last of them
pub record FailsAt {R Z : Type 0} (remaining : R → Option (List ℕ)) (old : LineReader R Z) (number : ℕ) : Type 0 where
  pub lines : List (List ℕ)
  pub rest : Option (List ℕ)
  pub named : number ≡ line_number old.lines lines
  pub took : IfSome (rest_of remaining old) (λ bytes. BeginsWith lines bytes rest)

-- these lines were read, and the next one, of this number, has more bytes than a line may have
pub record MeetsLong {R Z : Type 0} (remaining : R → Option (List ℕ)) (old : LineReader R Z) (before : List (List ℕ))
    (number : ℕ) : Type 0 where
  pub line : List ℕ
  pub rest : Option (List ℕ)
  pub named : number ≡ line_number old.lines (before ++ line ∷ [])
  pub took : IfSome (rest_of remaining old) (λ bytes. BeginsWith (before ++ line ∷ []) bytes rest)
  pub long : old.longest < length line

-- a reader holds more bytes of the next line than a line may have
pub record HoldsLong {R Z : Type 0} (r : LineReader R Z) : Type 0 where
  pub more : r.longest < length (held_of r.block)
  pub front : HasNoFeed r.longest (held_of r.block)

-- the bytes before a reader are the same, and more of the next line is held than a line may have
pub record StandsLong {R Z : Type 0} (remaining : R → Option (List ℕ)) (old new : LineReader R Z) : Type 0 where
  pub kept : IfSome (rest_of remaining old) (λ bytes. rest_of remaining new ≡ Some bytes)
  pub holds : HoldsLong new

-- the bytes from the front of a line on, whatever follows them, leave open whether it says something, or tell it
abbrev pub NoteSoFar : Option ℕ → Option Bool → List ℕ → Type 0
NoteSoFar mark None front = (tail : List ℕ) → words (front ++ tail) ≡ words tail
NoteSoFar mark (Some b) front = (tail : List ℕ) → is_note mark (words (front ++ tail)) ≡ b

-- bytes up to and with the first line feed, or without one
abbrev pub IsPiece : List ℕ → Bool → Type 0
IsPiece piece true = (front : List ℕ) × ((piece ≡ front ++ 10 ∷ []) × All (λ b. b ≢ 10) front)
IsPiece piece false = All (λ b. b ≢ 10) piece

-- the bytes that were held, up to and with the first line feed, were passed, and all of them where there is none
pub record PassesPiece {R Z : Type 0} (old new : LineReader R Z) (ends : Bool) : Type 0 where
  pub parts : held_of old.block ≡ line_of new ++ held_of new.block
  pub piece : IsPiece (line_of new) ends
  pub rest : ends ≡ false → held_of new.block ≡ []
  pub counted : new.lines ≡ old.lines
  pub longest : new.longest ≡ old.longest
  pub input : new.input ≡ old.input

-- the next line was passed, and says nothing
pub record PassesNote {R Z : Type 0} (mark : Option ℕ) (remaining : R → Option (List ℕ)) (old new : LineReader R Z) : Type 0
  where
    pub line : List ℕ
    pub took : IfSome (rest_of remaining old) (λ bytes. BeginsWith (line ∷ []) bytes (rest_of remaining new))
    pub note : is_note mark (words line) ≡ true

-- the next line has more bytes than a line may have, and says something
pub record TellsLong {R Z : Type 0} (mark : Option ℕ) (remaining : R → Option (List ℕ)) (old : LineReader R Z) : Type 0
  where
    pub line : List ℕ
    pub rest : Option (List ℕ)
    pub took : IfSome (rest_of remaining old) (λ bytes. BeginsWith (line ∷ []) bytes rest)
    pub long : old.longest < length line
    pub says : is_note mark (words line) ≡ false

-- one of them
abbrev pub PassesIf : {R Z : Type 0} → Option ℕ → (R → Option (List ℕ)) → LineReader R Z → LineReader R Z → Bool → Type 0
PassesIf mark remaining old new true = PassesNote mark remaining old new
PassesIf mark remaining old new false = TellsLong mark remaining old

-- lines without words and notes were read, and the next line, of this number, says something and has more bytes than a
-- line may have
pub record MeetsTelling {R Z : Type 0} (mark : Option ℕ) (remaining : R → Option (List ℕ)) (old : LineReader R Z)
    (number : ℕ) : Type 0 where
  pub before : List (List ℕ)
  pub passed : telling mark before ≡ []
  pub meets : MeetsLong remaining old before number
  pub says : is_note mark (words meets.line) ≡ false

-- whether a line is said to be too long, and what holds then
abbrev pub is_long : LineCause → Bool
is_long cause.Long = true
is_long c = false

abbrev pub IfLong : LineCause → Type 0 → Type 0
IfLong cause.Long P = P
IfLong c P = Unit {0}
