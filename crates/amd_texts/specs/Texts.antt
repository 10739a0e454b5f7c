-- The texts that `control` and `info` write.
use Rattle.std.specs.Prelude.{◌+◌, ◌-◌, ◌*◌, ◌/◌, ◌%◌, ◌==◌, ℕ, ℤ, Bool, List, [], ◌∷◌, ◌++◌, length, replicate, codes}
use Rattle.std.specs.Prelude.{decimal}
use Rattle.std.specs.Prelude.{unsigned_abs, if◌then◌else◌}
use Rattle.std.specs.Int.{is_negative}
use Rattle.std.specs.List.{list_all}
use Rattle.amd_types.specs.declared.amd.Control.{Control}
use Rattle.amd_types.specs.declared.amd.Info.{Info}
use Rattle.amd_types.specs.declared.amd.Status.{Status}
use Rattle.amd_types.specs.declared.amd.Status.TheVariants.{OK, Invalid, OkButJumbled, OutOfMemory}

-- a text without the zeros at its end
abbrev pub without_end_zeros : List ℕ → List ℕ
without_end_zeros [] = []
without_end_zeros (c ∷ cs) = if list_all (λ d. d == 48) (c ∷ cs) then [] else c ∷ without_end_zeros cs

-- the three digits of a number below 1000
abbrev pub three_digits : ℕ → List ℕ
three_digits n = (48 + n / 100) ∷ (48 + n / 10 % 10) ∷ (48 + n % 10) ∷ []

-- what stands behind the whole part, where n thousandths are left
abbrev pub fraction : ℕ → List ℕ
fraction n = if n == 0 then [] else codes "." ++ without_end_zeros (three_digits n)

-- a number of thousandths
abbrev pub thousandths : ℤ → List ℕ
thousandths t = (if is_negative t then codes "-" else []) ++ decimal (unsigned_abs t / 1000) ++ fraction
    (unsigned_abs t % 1000)

-- the line of the dense row parameter
abbrev pub parameter_line : ℤ → List ℕ
parameter_line t = codes "    dense row parameter: " ++ thousandths t ++ codes "\n"

-- the lines on the number of entries that a row may have
abbrev pub threshold_lines : ℤ → List ℕ
threshold_lines t = codes "    (rows with more than max (" ++ thousandths t
    ++ codes " * sqrt(n), 16) entries are\n    considered \"dense\", and placed last in output permutation)\n"

-- the lines on dense rows
abbrev pub dense_lines : ℤ → List ℕ
dense_lines t = if is_negative t then codes "    no rows treated as dense\n" else threshold_lines t

-- the line on absorption
abbrev pub absorption_line : Bool → List ℕ
absorption_line b = if b then codes "    aggressive absorption:  yes\n" else codes "    aggressive absorption:  no\n"

-- the text of what a caller chooses
abbrev pub control_text : Control → List ℕ
control_text c = codes "\nAMD: approximate minimum degree ordering\n" ++ parameter_line c.dense ++ dense_lines c.dense
    ++ absorption_line c.aggressive ++ codes "    size of AMD integer: 8\n\n"

-- a line of a label and a value, which begins in a column of its own
unfoldable pub labelled : List ℕ → List ℕ → List ℕ
labelled label value = codes "    " ++ label ++ replicate (52 - length label) 32 ++ value ++ codes "\n"

-- the word for a status
abbrev pub status_word : Status → List ℕ
status_word OK = codes "OK"
status_word Invalid = codes "invalid matrix"
status_word OkButJumbled = codes "OK, but jumbled"
status_word OutOfMemory = codes "unknown"

-- the lines on the matrix
abbrev pub matrix_lines : Info → List ℕ
matrix_lines i =
    labelled (codes "status:") (status_word i.status)
    ++ labelled (codes "n, dimension of A:") (decimal i.n)
    ++ labelled (codes "nz, number of nonzeros in A:") (decimal i.nz)
    ++ labelled (codes "symmetry of A:") (if i.symmetry then codes "true" else codes "false")
    ++ labelled (codes "number of nonzeros on diagonal:") (decimal i.nz_diag)
    ++ labelled (codes "nonzeros in pattern of A+A' (excl. diagonal):") (decimal i.nz_a_plus_at)
    ++ labelled (codes "# dense rows/columns of A+A':") (decimal i.n_dense)
    ++ labelled (codes "# of memory compactions:") (decimal i.n_cmp_a)

-- what the lines after it mean
abbrev pub note_lines : List ℕ
note_lines =
    codes "    The following approximate statistics are for a subsequent\n"
    ++ codes "    factorization of A(P,P) + A(P,P)'.  They are slight upper\n"
    ++ codes "    bounds if there are no dense rows/columns in A+A', and become\n"
    ++ codes "    looser if dense rows/columns exist.\n"

-- the lines on the factor
abbrev pub factor_lines : Info → List ℕ
factor_lines i =
    labelled (codes "nonzeros in L (excluding diagonal):") (decimal i.lnz)
    ++ labelled (codes "nonzeros in L (including diagonal):") (decimal (i.n + i.lnz))
    ++ labelled (codes "# divide operations for LDL' or LU:") (decimal i.n_div)
    ++ labelled (codes "# multiply-subtract operations for LDL':") (decimal i.n_mult_subs_ldl)
    ++ labelled (codes "# multiply-subtract operations for LU:") (decimal i.n_mult_subs_lu)
    ++ labelled (codes "max nz. in any column of L (incl. diagonal):") (decimal i.d_max)

-- the lines on the steps of whole factorizations
abbrev pub total_lines : Info → List ℕ
total_lines i =
    labelled (codes "chol flop count for real A, sqrt counted as 1 flop:")
    (decimal (i.n + i.n_div + 2 * i.n_mult_subs_ldl))
    ++ labelled (codes "LDL' flop count for real A:") (decimal (i.n_div + 2 * i.n_mult_subs_ldl))
    ++ labelled (codes "LDL' flop count for complex A:") (decimal (9 * i.n_div + 8 * i.n_mult_subs_ldl))
    ++ labelled (codes "LU flop count for real A (with no pivoting):") (decimal (i.n_div + 2 * i.n_mult_subs_lu))
    ++ labelled (codes "LU flop count for complex A (with no pivoting):") (decimal (9 * i.n_div + 8 * i.n_mult_subs_lu))

-- the text of what the ordering tells
abbrev pub info_text : Info → List ℕ
info_text i =
    codes "\nAMD results:\n" ++ matrix_lines i
    ++ codes "\n" ++ note_lines
    ++ codes "\n" ++ factor_lines i
    ++ codes "\n" ++ total_lines i
    ++ codes "\n"
