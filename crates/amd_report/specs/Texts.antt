-- The texts that the command writes.
use Rattle.std.specs.Prelude.{◌+◌, ◌-◌, ℕ, zero, suc, Option, None, Some, List, [], ◌++◌, codes, decimal, flat_map}
use Rattle.std.specs.Prelude.{slice_index, slice_index_or}
use Rattle.amd_types.specs.declared.amd.Info.{Info}
use Rattle.amd_types.specs.declared.amd.Status.{Status}
use Rattle.amd_types.specs.declared.amd.Status.TheVariants.{OK, Invalid, OkButJumbled, OutOfMemory}
use Rattle.amd_texts.specs.Texts.{labelled}

-- the number of each row in a line, from 1 on
abbrev pub row_line : ℕ → List ℕ
row_line row = decimal (row + 1) ++ codes "\n"

abbrev pub row_lines : List ℕ → List ℕ
row_lines rows = flat_map row_line rows

-- what is said of an input: the status of its ordering, and whether so many duplicates are some
abbrev pub status_phrase : Status → ℕ → List ℕ
status_phrase OK zero = codes "OK"
status_phrase OK (suc k) = codes "OK, but with duplicates"
status_phrase OkButJumbled d = codes "OK, but jumbled"
status_phrase Invalid d = codes "invalid"
status_phrase OutOfMemory d = codes "out of memory"

-- the lines on the matrix, from whose file so many duplicates were dropped
abbrev pub matrix_figures : Info → ℕ → List ℕ
matrix_figures i d =
    labelled (codes "rows") (decimal i.n)
    ++ labelled (codes "entries") (decimal i.nz)
    ++ labelled (codes "duplicates dropped") (decimal d)
    ++ labelled (codes "status") (status_phrase i.status d)
    ++ labelled (codes "rows placed last (dense or held)") (decimal i.n_dense)
    ++ labelled (codes "workspace compactions") (decimal i.n_cmp_a)

-- the lines on the factor
abbrev pub factor_figures : Info → List ℕ
factor_figures i =
    labelled (codes "entries of L below the diagonal, at most") (decimal i.lnz)
    ++ labelled (codes "divisions, at most") (decimal i.n_div)
    ++ labelled (codes "multiply-subtracts for LDL', at most") (decimal i.n_mult_subs_ldl)
    ++ labelled (codes "multiply-subtracts for LU, at most") (decimal i.n_mult_subs_lu)
    ++ labelled (codes "largest column, with its diagonal, at most") (decimal i.d_max)

-- the table of what an ordering tells
abbrev pub figures_text : Info → ℕ → List ℕ
figures_text i d = matrix_figures i d ++ factor_figures i

-- the number of a parent, from 1 on; 0 where there is none
abbrev pub tree_number : Option ℕ → ℕ
tree_number None = 0
tree_number (Some column) = column + 1

-- the number of the parent of each column in a line
abbrev pub tree_line : Option ℕ → List ℕ
tree_line parent = decimal (tree_number parent) ++ codes "\n"

abbrev pub tree_lines : List (Option ℕ) → List ℕ
tree_lines parents = flat_map tree_line parents

-- the line of supernode s: its first and its last column, the number of its parent, and that of the rows below its block
abbrev pub supernode_line : List ℕ → List ℕ → List (Option ℕ) → ℕ → List ℕ
supernode_line first ptr parent s =
    decimal (slice_index first s + 1) ++ codes " " ++ decimal (slice_index first (s + 1)) ++ codes " "
    ++ decimal (tree_number (slice_index_or parent s None)) ++ codes " "
    ++ decimal (slice_index ptr (s + 1) - slice_index ptr s) ++ codes "\n"

-- the lines of the first k supernodes
abbrev pub supernode_lines : List ℕ → List ℕ → List (Option ℕ) → ℕ → List ℕ
supernode_lines first ptr parent zero = []
supernode_lines first ptr parent (suc k) = supernode_lines first ptr parent k ++ supernode_line first ptr parent k
