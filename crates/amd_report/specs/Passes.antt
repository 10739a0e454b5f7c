-- How far a pass over the entries of a column form has come, and what it found.
use Rattle.std.specs.Prelude.{◌≡◌, ◌<◌, ◌≤◌, ◌+◌, ◌⊎◌, ℕ, Bool, true, false, List, length, slice_index, max, min, cond, nat_eq, nat_lt}
use Rattle.std.specs.Prelude.{slice_index_or}
use Rattle.amd_model.specs.Graph.{Graph}
use Rattle.amd_report.specs.Shapes.{Connected}

-- n columns over n rows
pub record IsForm (n : ℕ) (ap ai : List ℕ) : Type 0 where
  pub enough : n < length ap
  pub within : (j : ℕ) → j < n → slice_index ap (j + 1) ≤ length ai
  pub rows : (j q : ℕ) → j < n → slice_index ap j ≤ q → q < slice_index ap (j + 1) → slice_index ai q < n

-- the entry (i, c) was met, by a pass that read the columns before j, and of column j the places before a place
pub record Met (ap ai : List ℕ) (j place i c : ℕ) : Type 0 where
  pub at : ℕ
  pub from : slice_index ap c ≤ at
  pub to : at < slice_index ap (c + 1)
  pub row : slice_index ai at ≡ i
  pub before : (c < j) ⊎ ((c ≡ j) × (at < place))

-- the most that a number of a row and a column was over the entries that were met; 0 where there were none
pub record IsMostMet (ap ai : List ℕ) (j place : ℕ) (f : ℕ → ℕ → ℕ) (most : ℕ) : Type 0 where
  pub bound : (i c : ℕ) → Met ap ai j place i c → f i c ≤ most
  pub reached : (most ≡ 0) ⊎ ((i : ℕ) × (c : ℕ) × Met ap ai j place i c × (f i c ≡ most))

-- an entry that was met stands in row i and column c, or in row c and column i
abbrev pub MetBeside : List ℕ → List ℕ → ℕ → ℕ → ℕ → ℕ → Type 0
MetBeside ap ai j place i c = Met ap ai j place i c ⊎ Met ap ai j place c i

-- the first of the row itself and of those that it was met beside
pub record AreFirsts (ap ai : List ℕ) (j place : ℕ) (firsts : List ℕ) : Type 0 where
  pub low : (i c : ℕ) → MetBeside ap ai j place i c → slice_index firsts i ≤ c
  pub found : (i : ℕ) → i < length firsts → (slice_index firsts i ≡ i)
      ⊎ ((slice_index firsts i < i) × MetBeside ap ai j place i (slice_index firsts i))

-- the first row of a column whose rows rise, where it is before the diagonal, and else the column itself
abbrev pub first_row : List ℕ → List ℕ → ℕ → ℕ
first_row ap ai j = cond (nat_lt (slice_index ap j) (slice_index ap (j + 1))) (min (slice_index ai (slice_index ap j)) j) j

-- the rows of a class have one name, that of its first row; each row links to one of its class that is not after it, and
-- the first row alone to itself
pub record AreNames (name : ℕ → ℕ) (links : List ℕ) : Type 0 where
  pub low : (i : ℕ) → i < length links → name i ≤ i
  pub again : (i : ℕ) → i < length links → name (name i) ≡ name i
  pub down : (i : ℕ) → i < length links → slice_index links i ≤ i
  pub same : (i : ℕ) → i < length links → name (slice_index links i) ≡ name i
  pub ends : (i : ℕ) → i < length links → slice_index links i ≡ i → name i ≡ i

-- the names after the classes of two rows were joined
abbrev pub joined_names : (ℕ → ℕ) → ℕ → ℕ → ℕ → ℕ
joined_names name i j v = cond (nat_eq (name v) (max (name i) (name j))) (min (name i) (name j)) (name v)

-- the classes are those that the entries that were met make
pub record AreClasses (g : Graph) (ap ai : List ℕ) (j place : ℕ) (links : List ℕ) : Type 0 where
  pub name : ℕ → ℕ
  pub names : AreNames name links
  pub met : (i c : ℕ) → Met ap ai j place i c → name i ≡ name c
  pub connected : (v : ℕ) → v < length links → Connected g v (name v)

-- the marked rows have one name
abbrev pub HaveOneName : (ℕ → ℕ) → List Bool → Type 0
HaveOneName name marks = (v w : ℕ) → slice_index_or marks v false ≡ true → slice_index_or marks w false ≡ true → name v ≡ name w

-- and the marked rows are of one of them
pub record AreMarkedClasses (g : Graph) (ap ai : List ℕ) (j place : ℕ) (marks : List Bool) (links : List ℕ) : Type 0 where
  pub classes : AreClasses g ap ai j place links
  pub marked : HaveOneName classes.name marks

-- each entry of a form connects its row with its column
abbrev pub Connects : Graph → ℕ → List ℕ → List ℕ → Type 0
Connects g n ap ai = (i c : ℕ) → Met ap ai n 0 i c → Connected g i c
