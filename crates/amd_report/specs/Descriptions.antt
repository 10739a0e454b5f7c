-- The text of what a matrix is.
use Rattle.std.specs.Prelude.{◌/◌, ◌%◌, ℕ, Bool, true, false, List, ◌++◌, codes, decimal}
use Rattle.amd_types.specs.declared.amd.Info.{Info}
use Rattle.amd_texts.specs.Texts.{labelled}
use Rattle.amd_report.specs.declared.facts.Facts.{Facts}
use Rattle.amd_report.specs.Degrees.{mean_degree, symmetry_tenths}
use Rattle.amd_report.specs.Sources.{field_name, format_name, symmetry_name}
use Rattle.amd_market.specs.declared.sources.Source.{Source}

-- the word for a yes or a no
abbrev pub answer_word : Bool → List ℕ
answer_word true = codes "yes"
answer_word false = codes "no"

-- a number of hundredths as a decimal fraction
abbrev pub hundredths : ℕ → List ℕ
hundredths x = decimal (x / 100) ++ codes "." ++ decimal (x / 10 % 10) ++ decimal (x % 10)

-- a number of tenths as a decimal fraction
abbrev pub tenths : ℕ → List ℕ
tenths x = decimal (x / 10) ++ codes "." ++ decimal (x % 10)

-- the lines on what the file says
abbrev pub source_lines : Source → List ℕ
source_lines s =
    labelled (codes "format of the file") (format_name s)
    ++ labelled (codes "field of the file") (field_name s)
    ++ labelled (codes "symmetry of the file") (symmetry_name s)

-- the lines on the pattern, from whose file so many duplicates were dropped
abbrev pub pattern_lines : Info → ℕ → List ℕ
pattern_lines i d =
    labelled (codes "rows") (decimal i.n)
    ++ labelled (codes "entries") (decimal i.nz)
    ++ labelled (codes "duplicates dropped") (decimal d)
    ++ labelled (codes "symmetric pattern") (answer_word i.symmetry)
    ++ labelled (codes "entries on the diagonal") (decimal i.nz_diag)
    ++ labelled (codes "edges") (decimal (i.nz_a_plus_at / 2))

-- the line of a pattern symmetry in tenths of a per cent
abbrev pub symmetry_line : ℕ → List ℕ
symmetry_line share = labelled (codes "pattern symmetry") (tenths share ++ codes " %")

-- the lines on the shape of the pattern
abbrev pub shape_lines : Facts → List ℕ
shape_lines f =
    labelled (codes "mirrored entries off the diagonal") (decimal f.mirrored)
    ++ symmetry_line (symmetry_tenths f)
    ++ labelled (codes "bandwidth below the diagonal") (decimal f.bandwidths.lower)
    ++ labelled (codes "bandwidth above the diagonal") (decimal f.bandwidths.upper)
    ++ labelled (codes "profile of A + A'") (decimal f.profile)
    ++ labelled (codes "components of A + A'") (decimal f.components)

-- the line of a mean degree in hundredths
abbrev pub mean_line : ℕ → List ℕ
mean_line mean = labelled (codes "mean degree") (hundredths mean)

-- the lines on the degrees
abbrev pub degree_lines : Facts → List ℕ
degree_lines f =
    labelled (codes "greatest degree") (decimal f.degrees.greatest)
    ++ mean_line (mean_degree f)
    ++ labelled (codes "rows of degree 0") (decimal f.degrees.none)
    ++ labelled (codes "dense threshold") (decimal f.threshold)
    ++ labelled (codes "rows above the threshold") (decimal f.degrees.above)

-- the text of what a matrix is
abbrev pub facts_text : Facts → List ℕ
facts_text f = source_lines f.source ++ pattern_lines f.info f.duplicates ++ shape_lines f ++ degree_lines f
