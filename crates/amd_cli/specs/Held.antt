-- The rows that a text lists.
use Rattle.std.specs.Prelude.{◌≡◌, ◌↔◌, ℕ, Bool, true, false, Some, List, [], ◌∷◌, length, Contains, slice_index_or}
use Rattle.std.specs.List.{AllZip}
use Rattle.amd_lines.specs.Words.{words}
use Rattle.amd_market.specs.Entries.{SpellsIndex}
use Rattle.amd_lines.specs.Lines.{BeginsWith, percent, telling}
use Rattle.amd_market.specs.declared.faults.ReadError.{ReadError}
use Rattle.amd_cli.specs.Listed.{NamesNone}

-- the line is the number of one of n rows, of which the first is 1
pub record SpellsRow (n : ℕ) (line : List ℕ) (row : ℕ) : Type 0 where
  pub word : List ℕ
  pub alone : words line ≡ word ∷ []
  pub index : SpellsIndex word n row

-- exactly these of n rows are marked
pub record AreMarks (n : ℕ) (rows : List ℕ) (marks : List Bool) : Type 0 where
  pub size : length marks ≡ n
  pub each : (v : ℕ) → (slice_index_or marks v false ≡ true) ↔ Contains rows v

-- the lines of the text that say something are rows, and exactly these are marked
pub record MarksRows (bytes : List ℕ) (n : ℕ) (marks : List Bool) : Type 0 where
  pub lines : List (List ℕ)
  pub all : BeginsWith lines bytes (Some [])
  pub rows : List ℕ
  pub spells : AllZip (SpellsRow n) (telling percent lines) rows
  pub marked : AreMarks n rows marks

-- the error names the first line that should be a row and is none
abbrev pub NamesNoRow : List ℕ → ℕ → ReadError → Type 0
NamesNoRow bytes n e = NamesNone (SpellsRow n) bytes e
