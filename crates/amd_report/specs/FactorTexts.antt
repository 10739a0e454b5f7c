-- The texts on a factor.
use Rattle.std.specs.Prelude.{ℕ, zero, suc, ◌+◌, List, [], ◌++◌, Option, Some, None, codes, decimal, slice_index}
use Rattle.std.specs.Prelude.{slice_index_or}
use Rattle.amd_types.specs.declared.amd.Info.{Info}
use Rattle.amd_texts.specs.Texts.{labelled}
use Rattle.amd_factor.specs.declared.needs.Need.{Need}
use Rattle.amd_report.specs.Texts.{matrix_figures}

-- the number of the row of a parent under the rows p, from 1 on; 0 where there is none
abbrev pub row_at_parent : List ℕ → Option ℕ → ℕ
row_at_parent p None = 0
row_at_parent p (Some j) = slice_index p j + 1

-- the line of column k: its row, the row of its parent, and the number of its entries
abbrev pub column_line : List ℕ → List ℕ → List (Option ℕ) → ℕ → List ℕ
column_line p sizes parent k =
    decimal (slice_index p k + 1) ++ codes " " ++ decimal (row_at_parent p (slice_index_or parent k None))
    ++ codes " " ++ decimal (slice_index sizes k) ++ codes "\n"

-- the lines of the first k columns
abbrev pub column_lines : List ℕ → List ℕ → List (Option ℕ) → ℕ → List ℕ
column_lines p sizes parent zero = []
column_lines p sizes parent (suc k) = column_lines p sizes parent k ++ column_line p sizes parent k

-- a line of what a factor needs, and of the bound
abbrev pub bound_line : List ℕ → ℕ → ℕ → List ℕ
bound_line label exact bound = labelled label (decimal exact ++ codes ", at most " ++ decimal bound)

-- the lines on the factor
abbrev pub need_figures : Need → Info → List ℕ
need_figures need i =
    bound_line (codes "entries of L below the diagonal") need.lnz i.lnz
    ++ bound_line (codes "divisions") need.lnz i.n_div
    ++ bound_line (codes "multiply-subtracts for LDL'") need.n_mult_subs_ldl i.n_mult_subs_ldl
    ++ bound_line (codes "multiply-subtracts for LU") need.n_mult_subs_lu i.n_mult_subs_lu
    ++ bound_line (codes "largest column, with its diagonal") need.d_max i.d_max

-- the table of what an ordering tells, how many duplicates were dropped, and what the factor needs beside each bound
abbrev pub comparison_text : Need → Info → ℕ → List ℕ
comparison_text need i d = matrix_figures i d ++ need_figures need i
