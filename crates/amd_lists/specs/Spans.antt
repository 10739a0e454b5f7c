-- Words of the workspace that follow one another, each of which names a row: a span of them, what is left of one, and the
-- list of a row.
use Rattle.std.specs.Prelude.{ℕ, ℤ, List, ◌≤◌, ◌+◌, ◌-◌, length}
use Rattle.amd_words.specs.Words.{rows, Names}

-- count words from a place on stand in the workspace, and name rows below n
pub record IsSpan (n : ℕ) (iw : List ℤ) (from count : ℕ) : Type 0 where
  pub inside : from + count ≤ length iw
  pub names : Names n iw from count

-- count words from a place on
pub record Span : Type 0 where
  pub words : List ℤ
  pub from : ℕ
  pub count : ℕ

abbrev pub span : List ℤ → ℕ → ℕ → Span
span iw from count = record { words = iw; from = from; count = count }

-- the rows that they name
abbrev pub rows_of : Span → List ℕ
rows_of s = rows s.words s.from s.count

-- what is left where words were sifted: the words, where those that stay end, and a sum over these
pub record Sifted : Type 0 where
  pub words : List ℤ
  pub end : ℕ
  pub sum : ℕ

abbrev pub sifted : List ℤ → ℕ → ℕ → Sifted
sifted iw end sum = record { words = iw; end = end; sum = sum }

-- the list of a row among the words: count words from a place on, the first of which name elements
pub record RowList : Type 0 where
  pub words : List ℤ
  pub from : ℕ
  pub n_elements : ℕ
  pub count : ℕ

abbrev pub row_list : List ℤ → ℕ → ℕ → ℕ → RowList
row_list iw from n_elements count = record { words = iw; from = from; n_elements = n_elements; count = count }

-- the elements and the variables that it names
abbrev pub elements_at : RowList → List ℕ
elements_at l = rows l.words l.from l.n_elements

abbrev pub variables_at : RowList → List ℕ
variables_at l = rows l.words (l.from + l.n_elements) (l.count - l.n_elements)
