-- The line of the size, and the lines of the entries.
use Rattle.std.specs.Prelude.{◌≡◌, ◌<◌, ◌+◌, ◌||◌, ℕ, Bool, pos, true, List, [], ◌∷◌, ◌++◌, length}
use Rattle.std.specs.List.{list_all}
use Rattle.std.specs.Float.Parse.{is_float_text}
use Rattle.amd_lines.specs.Words.{words, SpellsNumber, is_double_text}
use Rattle.amd_market.specs.Headers.{value_words}
use Rattle.amd_market.specs.declared.headers.Field.{Field}

-- the line is the number of rows, of columns and of entries
pub record SpellsSize (line : List ℕ) (rows columns entries : ℕ) : Type 0 where
  pub first : List ℕ
  pub second : List ℕ
  pub third : List ℕ
  pub parts : words line ≡ first ∷ (second ∷ (third ∷ []))
  pub has_rows : SpellsNumber first (pos rows)
  pub has_columns : SpellsNumber second (pos columns)
  pub has_entries : SpellsNumber third (pos entries)

-- the word is the number of one of n rows or columns, of which the first is 1
abbrev pub SpellsIndex : List ℕ → ℕ → ℕ → Type 0
SpellsIndex word n i = (i < n) × SpellsNumber word (pos (i + 1))

-- the word is a number: one that `parse` takes, or one with a 'D' before its exponent, as Fortran writes a double
abbrev pub is_value : List ℕ → Bool
is_value w = is_float_text w || is_double_text w

-- the words are so many numbers
pub record AreValues (count : ℕ) (ws : List (List ℕ)) : Type 0 where
  pub counted : length ws ≡ count
  pub numbers : list_all is_value ws ≡ true

-- the line is an entry of a matrix with n rows and columns: the numbers of its row and its column, and the numbers of a
-- value of its field
pub record SpellsEntry (field : Field) (n : ℕ) (line : List ℕ) (e : ℕ × ℕ) : Type 0 where
  pub first : List ℕ
  pub second : List ℕ
  pub behind : List (List ℕ)
  pub parts : words line ≡ first ∷ (second ∷ behind)
  pub row : SpellsIndex first n (e.0)
  pub column : SpellsIndex second n (e.1)
  pub value : AreValues (value_words field) behind

-- the line begins with the numbers of a row and of a column, and has the words of a text behind them
pub record BeginsEntry (n : ℕ) (line : List ℕ) (row column : ℕ) (rest : List ℕ) : Type 0 where
  pub first : List ℕ
  pub second : List ℕ
  pub parts : words line ≡ first ∷ (second ∷ words rest)
  pub has_row : SpellsIndex first n row
  pub has_column : SpellsIndex second n column

-- a text begins with so many numbers, and has the words of a text behind them
pub record BeginsValues (count : ℕ) (text rest : List ℕ) : Type 0 where
  pub values : List (List ℕ)
  pub parts : words text ≡ values ++ words rest
  pub are : AreValues count values

-- the lines are the entries, one by one
abbrev pub SpellsEntries : Field → ℕ → List (List ℕ) → List (ℕ × ℕ) → Type 0
SpellsEntries field n [] [] = Unit {0}
SpellsEntries field n (l ∷ ls) (e ∷ es) = SpellsEntry field n l e × SpellsEntries field n ls es
SpellsEntries field n [] (e ∷ es) = ⊥
SpellsEntries field n (l ∷ ls) [] = ⊥
