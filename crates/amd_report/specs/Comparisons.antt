-- The text of what the factor needs under several orders.
use Rattle.std.specs.Prelude.{◌+◌, ◌-◌, ◌*◌, ◌^◌, ℕ, Bool, true, false, Some, None, Option, List, ◌++◌, codes, decimal, min}
use Rattle.amd_texts.specs.Texts.{labelled}
use Rattle.amd_factor.specs.declared.needs.Need.{Need}
use Rattle.amd_report.specs.declared.compare.Comparison.{Comparison}
use Rattle.amd_report.specs.declared.compare.Figure.{Figure}
use Rattle.amd_report.specs.declared.compare.Figure.TheVariants.{Entries, Fill, StepsLdl, StepsLu}
use Rattle.amd_report.specs.declared.compare.Figure.TheVariants.{FlopsLdl, LargestColumn, Bytes}

-- the greatest number of 128 bits
abbrev pub greatest : ℕ
greatest = 2 ^ 128 - 1

-- a figure of what the factor needs of a matrix with so many rows and edges: the flops are a division for each entry and
-- two for each multiply-subtract step, the bytes eight for each entry and each row
abbrev pub figure_of : Figure → ℕ → ℕ → Need → ℕ
figure_of Entries rows edges need = need.lnz
figure_of Fill rows edges need = need.lnz - edges
figure_of StepsLdl rows edges need = need.n_mult_subs_ldl
figure_of StepsLu rows edges need = need.n_mult_subs_lu
figure_of FlopsLdl rows edges need = min (need.lnz + 2 * need.n_mult_subs_ldl) greatest
figure_of LargestColumn rows edges need = need.d_max
figure_of Bytes rows edges need = min (8 * (need.lnz + rows)) greatest

-- the option that names the file with the third order
abbrev pub option_name : Bool → List ℕ
option_name true = codes "--with-inverse"
option_name false = codes "--with"

-- a figure under two orders, and under three
abbrev pub two_figures : ℕ → ℕ → List ℕ
two_figures stands ordered = decimal stands ++ (codes " as it stands, " ++ (decimal ordered ++ codes " ordered"))

abbrev pub three_figures : ℕ → ℕ → ℕ → List ℕ → List ℕ
three_figures stands ordered other option =
    decimal stands ++ (codes " as it stands, " ++ (decimal ordered ++ (codes " ordered, " ++ (decimal other
    ++ (codes " by " ++ option)))))

-- a figure under each order
abbrev pub figures_under : Figure → ℕ → ℕ → Need → Need → Option Need → Bool → List ℕ
figures_under f rows edges stands ordered None inverse =
    two_figures (figure_of f rows edges stands) (figure_of f rows edges ordered)
figures_under f rows edges stands ordered (Some other) inverse =
    three_figures (figure_of f rows edges stands) (figure_of f rows edges ordered) (figure_of f rows edges other)
    (option_name inverse)

-- the line of a figure
abbrev pub compared_line : List ℕ → Figure → Comparison → List ℕ
compared_line label f c = labelled label (figures_under f c.rows c.edges c.stands c.ordered c.other c.inverse)

-- the lines on the orders
abbrev pub comparison_lines : Comparison → List ℕ
comparison_lines c =
    compared_line (codes "entries of L below the diagonal") Entries c
    ++ compared_line (codes "fill") Fill c
    ++ compared_line (codes "multiply-subtracts for LDL'") StepsLdl c
    ++ compared_line (codes "multiply-subtracts for LU") StepsLu c
    ++ compared_line (codes "flops for LDL'") FlopsLdl c
    ++ compared_line (codes "largest column, with its diagonal") LargestColumn c
    ++ compared_line (codes "bytes of L in doubles, with its diagonal") Bytes c
