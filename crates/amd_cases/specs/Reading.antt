-- What a reader of cases takes off its input, where the bytes of that are known.
use Rattle.std.specs.Prelude.{◌≡◌, ℕ, ℤ, Bool, Option, None, List, [], ◌∷◌}
use Rattle.amd_lines.specs.Lines.{TakesLines, FailsAt, telling, lines_read}
use Rattle.amd_lines.specs.declared.lines.LineReader.{LineReader}
use Rattle.amd_lines.specs.declared.errors.LineCause.{LineCause}
use Rattle.amd_lines.specs.declared.errors.LineCause.TheVariants as cause
use Rattle.amd_cases.specs.Items.{SpellsItem}
use Rattle.amd_cases.specs.declared.items.Item.{Item}
use Rattle.amd_cases.specs.declared.items.Item.TheVariants as item
use Rattle.amd_cases.specs.Spelling.{SpellsCase}
use Rattle.amd_cases.specs.declared.cases.Case.{Case}
use Rattle.amd_cases.specs.declared.faults.CaseFault.TheVariants as fault
use Rattle.amd_cases.specs.declared.reader.CaseError.{CaseError}
use Rattle.amd_cases.specs.declared.reader.CaseError.TheVariants.{Line, Input, Stopped}
use Rattle.amd_cases.specs.declared.reader.CaseReader.{CaseReader}

-- the lines of a reader
abbrev pub lines_of : {R Z : Type 0} → CaseReader R Z → LineReader R Z
lines_of r = r.lines

-- an error came
abbrev pub has_failed : {R Z : Type 0} → CaseReader R Z → Bool
has_failed r = r.failed

-- the lines that have a word: no byte marks a note
abbrev pub worded : List (List ℕ) → List (List ℕ)
worded ls = telling None ls

-- as many lines as items, and each line spells its item
abbrev pub SpellsItems : {Z : Type 0} → List (List ℕ) → List (Item Z) → Type 0
SpellsItems [] [] = Unit {0}
SpellsItems (l ∷ ls) (i ∷ is) = SpellsItem l i × SpellsItems ls is
SpellsItems [] (i ∷ is) = ⊥
SpellsItems (l ∷ ls) [] = ⊥

-- lines were read and counted, and those of them that have a word spell the items one by one
pub record TakesItems {R Z : Type 0} (remaining : R → Option (List ℕ)) (old new : LineReader R Z)
    (items : List (Item Z)) : Type 0 where
  pub lines : List (List ℕ)
  pub takes : TakesLines remaining old new lines
  pub spells : SpellsItems (worded lines) items

-- lines were read that spell the items of a case
pub record ReadsCase {R Z : Type 0} (remaining : R → Option (List ℕ)) (old new : LineReader R Z) (case : Case Z) : Type
    0 where
  pub items : List (Item Z)
  pub takes : TakesItems remaining old new items
  pub spells : SpellsCase items case

-- the same of the lines behind the first one of a case, which named its number
pub record ReadsBody {R Z : Type 0} (remaining : R → Option (List ℕ)) (old new : LineReader R Z) (number : ℤ)
    (case : Case Z) : Type 0 where
  pub items : List (Item Z)
  pub takes : TakesItems remaining old new items
  pub spells : SpellsCase (item.Case number ∷ items) case

-- the error of a line that was not read, as an error of this reader
abbrev pub case_error : ℕ → LineCause → CaseError
case_error line cause.Long = Line line fault.Long
case_error line cause.Lines = Line line fault.Lines
case_error line cause.OutOfMemory = Line line fault.OutOfMemory
case_error line (cause.Input error) = Input line error

-- some lines were read, this is the number of the last of them, and so many were counted
pub record StopsAt {R Z : Type 0} (remaining : R → Option (List ℕ)) (old new : LineReader R Z) (number : ℕ) : Type 0
  where
    pub counted : number ≡ lines_read new
    pub fails : FailsAt remaining old number

-- the error names the line that was read last
abbrev pub NamesLast : {R Z : Type 0} → (R → Option (List ℕ)) → LineReader R Z → LineReader R Z → CaseError → Type 0
NamesLast remaining old new (Line line fault) = StopsAt remaining old new line
NamesLast remaining old new (Input line e) = StopsAt remaining old new line
NamesLast remaining old new Stopped = Unit {0}
