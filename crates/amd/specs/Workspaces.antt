-- What workspaces are made for.
use Rattle.std.specs.Prelude.{◌≡◌, ℕ}
use Rattle.std.specs.Vec.{vec_capacity}
use Rattle.amd.specs.Blocks.{words_in}
use Rattle.amd.specs.declared.workspace.Widths.{Widths}
use Rattle.amd.specs.declared.workspace.Widths.TheVariants.{Narrow, Places, Words, Wide}

-- so many rows and entries a matrix may have in these lists
abbrev pub rows_of : {A : Type 0} → Widths A → ℕ
rows_of (Narrow w) = w.rows
rows_of (Places w) = w.rows
rows_of (Words w) = w.rows
rows_of (Wide w) = w.rows

abbrev pub entries_of : {A : Type 0} → Widths A → ℕ
entries_of (Narrow w) = w.entries
entries_of (Places w) = w.entries
entries_of (Words w) = w.entries
entries_of (Wide w) = w.entries

-- so many words the lists have room for
abbrev pub words_of : {A : Type 0} → Widths A → ℕ
words_of (Narrow w) = words_in w.memory (vec_capacity w.pointers) (vec_capacity w.columns)
words_of (Places w) = words_in w.memory (vec_capacity w.pointers) (vec_capacity w.columns)
words_of (Words w) = words_in w.memory (vec_capacity w.pointers) (vec_capacity w.columns)
words_of (Wide w) = words_in w.memory (vec_capacity w.pointers) (vec_capacity w.columns)

-- the lists are those of a workspace for so many rows and entries
abbrev pub IsMadeFor : {A : Type 0} → ℕ → ℕ → Widths A → Type 0
IsMadeFor rows entries w = (rows_of w ≡ rows) × (entries_of w ≡ entries)
