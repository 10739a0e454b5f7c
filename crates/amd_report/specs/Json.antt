-- The answers as JSON.
use Rattle.std.specs.Prelude.{◌+◌, ◌-◌, ◌/◌, ℕ, Bool, Option, None, Some, List, [], ◌∷◌, ◌++◌}
use Rattle.std.specs.Prelude.{codes, decimal, flat_map, if◌then◌else◌}
use Rattle.amd_types.specs.declared.amd.Info.{Info}
use Rattle.amd_factor.specs.declared.needs.Need.{Need}
use Rattle.amd_report.specs.declared.compare.Comparison.{Comparison}
use Rattle.amd_report.specs.declared.facts.Facts.{Facts}
use Rattle.amd_report.specs.declared.compare.Figure.TheVariants.{FlopsLdl, Bytes}
use Rattle.amd_report.specs.Comparisons.{figure_of}
use Rattle.amd_report.specs.Degrees.{mean_degree, symmetry_tenths}
use Rattle.amd_report.specs.Descriptions.{hundredths, tenths}
use Rattle.amd_report.specs.Sources.{field_name, format_name, symmetry_name}
use Rattle.amd_report.specs.Texts.{status_phrase}
use Rattle.amd_market.specs.declared.sources.Source.{Source}

-- a name and its value, behind what stands before it
unfoldable pub member : List ℕ → List ℕ → List ℕ → List ℕ
member before name value = before ++ codes "\"" ++ name ++ codes "\":" ++ value

-- a text in quotes
abbrev pub quoted : List ℕ → List ℕ
quoted text = codes "\"" ++ text ++ codes "\""

-- a yes or a no
abbrev pub truth : Bool → List ℕ
truth b = if b then codes "true" else codes "false"

-- the members on the matrix, from whose file so many duplicates were dropped
abbrev pub matrix_members : Info → ℕ → List ℕ
matrix_members i d =
    member (codes "{") (codes "rows") (decimal i.n)
    ++ member (codes ",") (codes "entries") (decimal i.nz)
    ++ member (codes ",") (codes "duplicates_dropped") (decimal d)
    ++ member (codes ",") (codes "status") (quoted (status_phrase i.status d))
    ++ member (codes ",") (codes "rows_placed_last") (decimal i.n_dense)
    ++ member (codes ",") (codes "workspace_compactions") (decimal i.n_cmp_a)

-- the bounds on the factor
abbrev pub bound_members : Info → List ℕ
bound_members i =
    member (codes ",\"at_most\":{") (codes "entries_of_l") (decimal i.lnz)
    ++ member (codes ",") (codes "divisions") (decimal i.n_div)
    ++ member (codes ",") (codes "multiply_subtracts_ldl") (decimal i.n_mult_subs_ldl)
    ++ member (codes ",") (codes "multiply_subtracts_lu") (decimal i.n_mult_subs_lu)
    ++ member (codes ",") (codes "largest_column") (decimal i.d_max)
    ++ codes "}"

-- the numbers of rows behind a first one, from 1 on
abbrev pub one_more_row : ℕ → List ℕ
one_more_row row = codes "," ++ decimal (row + 1)

abbrev pub more_rows : List ℕ → List ℕ
more_rows rows = flat_map one_more_row rows

-- the numbers of rows as a list, from 1 on
abbrev pub row_list : List ℕ → List ℕ
row_list [] = codes "[]"
row_list (row ∷ rows) = codes "[" ++ decimal (row + 1) ++ more_rows rows ++ codes "]"

-- what the factor needs under an order, of a matrix with so many rows and edges
abbrev pub need_members : List ℕ → ℕ → ℕ → Need → List ℕ
need_members name rows edges need =
    (codes ",\"" ++ (name ++ codes "\":")) ++ member (codes "{") (codes "entries_of_l") (decimal need.lnz)
    ++ member (codes ",") (codes "fill") (decimal (need.lnz - edges))
    ++ member (codes ",") (codes "divisions") (decimal need.lnz)
    ++ member (codes ",") (codes "multiply_subtracts_ldl") (decimal need.n_mult_subs_ldl)
    ++ member (codes ",") (codes "multiply_subtracts_lu") (decimal need.n_mult_subs_lu)
    ++ member (codes ",") (codes "flops_ldl") (decimal (figure_of FlopsLdl rows edges need))
    ++ member (codes ",") (codes "largest_column") (decimal need.d_max)
    ++ member (codes ",") (codes "bytes_of_l") (decimal (figure_of Bytes rows edges need))
    ++ codes "}"

-- what it needs under the order of a file, where there is one
abbrev pub other_members : ℕ → ℕ → Option Need → List ℕ
other_members rows edges None = []
other_members rows edges (Some need) = need_members (codes "with") rows edges need

-- what it needs under each order
abbrev pub comparison_members : Comparison → List ℕ
comparison_members c =
    need_members (codes "as_it_stands") c.rows c.edges c.stands ++ need_members (codes "ordered") c.rows c.edges c.ordered
    ++ other_members c.rows c.edges c.other

-- and so where it is known
abbrev pub known_members : Option Comparison → List ℕ
known_members None = []
known_members (Some c) = comparison_members c

-- an ordering
abbrev pub order_json : Info → ℕ → Option Comparison → List ℕ → List ℕ
order_json i d compared p =
    matrix_members i d ++ bound_members i ++ known_members compared ++ codes ",\"permutation\":" ++ row_list p
    ++ codes "}\n"

-- the members on the pattern, from whose file so many duplicates were dropped
abbrev pub pattern_members : Info → ℕ → List ℕ
pattern_members i d =
    member (codes "{") (codes "rows") (decimal i.n)
    ++ member (codes ",") (codes "entries") (decimal i.nz)
    ++ member (codes ",") (codes "duplicates_dropped") (decimal d)
    ++ member (codes ",") (codes "symmetric_pattern") (truth i.symmetry)
    ++ member (codes ",") (codes "entries_on_the_diagonal") (decimal i.nz_diag)
    ++ member (codes ",") (codes "edges") (decimal (i.nz_a_plus_at / 2))

-- the members on what the file says
abbrev pub source_members : Source → List ℕ
source_members s =
    member (codes ",") (codes "format") (quoted (format_name s))
    ++ member (codes ",") (codes "field") (quoted (field_name s))
    ++ member (codes ",") (codes "symmetry") (quoted (symmetry_name s))

-- the members on the shape of the pattern
abbrev pub shape_members : Facts → List ℕ
shape_members f =
    member (codes ",") (codes "mirrored_entries") (decimal f.mirrored)
    ++ member (codes ",") (codes "pattern_symmetry_percent") (tenths (symmetry_tenths f))
    ++ member (codes ",") (codes "lower_bandwidth") (decimal f.bandwidths.lower)
    ++ member (codes ",") (codes "upper_bandwidth") (decimal f.bandwidths.upper)
    ++ member (codes ",") (codes "profile") (decimal f.profile)
    ++ member (codes ",") (codes "components") (decimal f.components)

-- the members on the degrees
abbrev pub degree_members : Facts → List ℕ
degree_members f =
    member (codes ",") (codes "greatest_degree") (decimal f.degrees.greatest)
    ++ member (codes ",") (codes "mean_degree") (hundredths (mean_degree f))
    ++ member (codes ",") (codes "rows_of_degree_0") (decimal f.degrees.none)
    ++ member (codes ",") (codes "dense_threshold") (decimal f.threshold)
    ++ member (codes ",") (codes "rows_above_the_threshold") (decimal f.degrees.above)

-- what a matrix is, and what its factor needs under each order, where that is known
abbrev pub facts_json : Facts → Option Comparison → List ℕ
facts_json f compared =
    pattern_members f.info f.duplicates ++ source_members f.source ++ shape_members f ++ degree_members f
    ++ known_members compared ++ codes "}\n"
