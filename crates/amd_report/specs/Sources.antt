-- The names of what a file says of its matrix.
use Rattle.std.specs.Prelude.{ℕ, List, codes}
use Rattle.amd_market.specs.Headers.{field_text, symmetry_text}
use Rattle.amd_market.specs.declared.headers.Format.{Format}
use Rattle.amd_market.specs.declared.headers.Format.TheVariants.{Coordinate, Array}
use Rattle.amd_market.specs.declared.headers.Header.{Header}
use Rattle.amd_market.specs.declared.sources.Values.{Values}
use Rattle.amd_market.specs.declared.sources.Values.TheVariants.{Real, Complex, Integer, Pattern, Elsewhere}
use Rattle.amd_market.specs.declared.sources.Letters.{Letters}
use Rattle.amd_market.specs.declared.sources.Source.{Source}
use Rattle.amd_market.specs.declared.sources.Source.TheVariants.{Market, Boeing}

-- the name of a format
abbrev pub market_format : Format → List ℕ
market_format Coordinate = codes "Matrix Market coordinate"
market_format Array = codes "Matrix Market array"

abbrev pub format_name : Source → List ℕ
format_name (Market header) = market_format header.format
format_name (Boeing letters) = codes "Harwell-Boeing or Rutherford-Boeing"

-- the name of what the values are
abbrev pub values_word : Values → List ℕ
values_word Real = codes "real"
values_word Complex = codes "complex"
values_word Integer = codes "integer"
values_word Pattern = codes "pattern"
values_word Elsewhere = codes "in another file"

abbrev pub field_name : Source → List ℕ
field_name (Market header) = field_text header.field
field_name (Boeing letters) = values_word letters.values

-- the name of the symmetry
abbrev pub symmetry_name : Source → List ℕ
symmetry_name (Market header) = symmetry_text header.symmetry
symmetry_name (Boeing letters) = symmetry_text letters.symmetry
