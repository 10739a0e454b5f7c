-- The lines of the exact factor beside the bounds.
use Rattle.std.specs.Prelude.{◌≡◌, ℕ, ℤ, List, [], ◌∷◌, ◌++◌, codes, decimal, length, unsigned_abs, Option}
use Rattle.std.specs.Io.KnownBytes.{Appends}
use Rattle.amd_model.specs.Factor.{IsFactor, needed, needed_front}
use Rattle.amd_model.specs.Figures.{entries, ldl_steps, lu_steps}
use Rattle.amd_model.specs.Input.Pattern.{graph_of}
use Rattle.amd_factor.specs.Orders.{Permutes}
use Rattle.amd_types.specs.declared.amd.Info.{Info}

-- how many entries each column has, with a space in front of each number
abbrev pub column_counts : List (List ℕ) → List ℕ
column_counts [] = []
column_counts (column ∷ rest) = (codes " " ++ decimal (length column)) ++ column_counts rest

-- the line of a figure: what the factor needs, and the bound
abbrev pub exact_line : List ℕ → ℕ → ℕ → List ℕ
exact_line name exact bound = name ++ codes ": exact " ++ decimal exact ++ codes ", bound " ++ decimal bound ++ codes
    "\n"

-- the lines of the figures of a factor with these columns, and of a record
abbrev pub figure_lines : List (List ℕ) → Info → List ℕ
figure_lines columns info =
    exact_line (codes "nonzeros in L (excluding diagonal)") (needed entries columns) info.lnz
    ++ exact_line (codes "multiply-subtract operations for LDL'") (needed ldl_steps columns) info.n_mult_subs_ldl
    ++ exact_line (codes "multiply-subtract operations for LU") (needed lu_steps columns) info.n_mult_subs_lu
    ++ exact_line (codes "max nz. in any column of L (incl. diagonal)") (needed_front columns) info.d_max

-- the lines of the columns, and of the figures
abbrev pub exact_lines : List (List ℕ) → Info → List ℕ
exact_lines columns info = (codes "\nExact column counts of the factor:\n" ++ (column_counts columns ++ codes "\n")) ++
    figure_lines columns info

-- a text tells the factor of a matrix with n rows under the order p, beside the bounds in a record
pub record TellsExact (n : ℤ) (ap ai p : List ℤ) (info : Info) (text : List ℕ) : Type 0 where
  pub order : List ℕ
  pub permutes : Permutes (unsigned_abs n) p order
  pub columns : List (List ℕ)
  pub factor : IsFactor (graph_of (unsigned_abs n) ap ai) order columns
  pub lines : text ≡ exact_lines columns info

-- a writer that tells its bytes has one such text more
abbrev pub HasExact : ℤ → List ℤ → List ℤ → List ℤ → Info → Option (List ℕ) → Option (List ℕ) → Type 0
HasExact n ap ai p info old new = (text : List ℕ) × TellsExact n ap ai p info text × Appends old new text
