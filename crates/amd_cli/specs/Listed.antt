-- Texts that list things, one a line.
use Rattle.std.specs.Prelude.{◌≡◌, ◌⊎◌, ℕ, false, Option, Some, List, [], ◌∷◌, ◌++◌}
use Rattle.std.specs.List.{AllZip}
use Rattle.amd_lines.specs.Words.{words}
use Rattle.amd_lines.specs.Lines.{BeginsWith, is_note, line_number, percent, telling}
use Rattle.amd_market.specs.Faults.{IsOfReading, named_line}
use Rattle.amd_market.specs.declared.faults.ReadError.{ReadError}
use Rattle.amd_market.specs.declared.faults.ReadError.TheVariants.{Line, Input}

-- the lines of the text that say something are these things, one by one
pub record ListsEach {X : Type 0} (Spells : List ℕ → X → Type 0) (bytes : List ℕ) (xs : List X) : Type 0 where
  pub lines : List (List ℕ)
  pub all : BeginsWith lines bytes (Some [])
  pub spells : AllZip Spells (telling percent lines) xs

-- the last of the lines says something but is no such thing, and each before it that says something is one
pub record EndAtNone {X : Type 0} (Spells : List ℕ → X → Type 0) (lines : List (List ℕ)) : Type 0 where
  pub before : List (List ℕ)
  pub line : List ℕ
  pub parts : lines ≡ before ++ line ∷ []
  pub says : is_note percent (words line) ≡ false
  pub none : (x : X) → Spells line x → ⊥
  pub things : List X
  pub spells : AllZip Spells (telling percent before) things

-- what an error says of the lines that were read: one of reading, or of memory, nothing
abbrev pub BlamesLine : {X : Type 0} → (List ℕ → X → Type 0) → ReadError → List (List ℕ) → Type 0
BlamesLine Spells (Line number f found) lines = IsOfReading f ⊎ EndAtNone Spells lines
BlamesLine Spells (Input number error) lines = Unit {0}

-- the text begins with some lines, the error names the last of them, and that line is the first that should be such a
-- thing and is none
pub record NamesNone {X : Type 0} (Spells : List ℕ → X → Type 0) (bytes : List ℕ) (e : ReadError) : Type 0 where
  pub lines : List (List ℕ)
  pub rest : Option (List ℕ)
  pub named : named_line e ≡ line_number 0 lines
  pub begins : BeginsWith lines bytes rest
  pub cause : BlamesLine Spells e lines
