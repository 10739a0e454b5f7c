-- Numbers of bytes, with a letter behind them, and what a run takes.
use Rattle.std.specs.Prelude.{
  ◌≡◌,
  ◌⊎◌,
  ◌<◌,
  ◌≤◌,
  ◌+◌,
  ◌-◌,
  ◌*◌,
  ◌^◌,
  ◌++◌,
  ◌∷◌,
  ◌==◌,
  ◌||◌,
  if◌then◌else◌,
  ℕ,
  Option,
  None,
  Some,
  List,
  [],
  min,
  unwrap_or,
}
use Rattle.std.specs.Str.Parse.{digits_value, without_leading_plus}
use Rattle.amd_cli.specs.declared.request.Allowance.{Allowance}
use Rattle.amd_cli.specs.declared.request.Allowance.TheVariants.{Justified, Any, Limit}
use Rattle.amd_cli.specs.declared.sizes.Work.{Work}
use Rattle.amd_cli.specs.declared.sizes.Work.TheVariants.{Facts, Order, Factor}

-- how many bytes a letter stands for: K, M and G, great or small
abbrev pub unit_of : ℕ → Option ℕ
unit_of letter =
    if letter == 75 || letter == 107 then Some (2 ^ 10)
    else (if letter == 77 || letter == 109 then Some (2 ^ 20)
    else (if letter == 71 || letter == 103 then Some (2 ^ 30) else None))

-- the text is the digits and a letter, which stands for so many bytes; or the digits alone
abbrev pub AreUnitParts : List ℕ → List ℕ → ℕ → Type 0
AreUnitParts text digits unit = ((letter : ℕ) × (text ≡ digits ++ letter ∷ []) × (unit_of letter ≡ Some unit))
    ⊎ ((text ≡ digits) × (unit ≡ 1))

-- the text tells so many bytes
pub record SpellsLimit (text : List ℕ) (bytes : ℕ) : Type 0 where
  pub digits : List ℕ
  pub unit : ℕ
  pub parts : AreUnitParts text digits unit
  pub is : bytes ≡ digits_value 10 (without_leading_plus digits) * unit

-- the greatest number of 64 bits
abbrev pub greatest : ℕ
greatest = 2 ^ 64 - 1

-- how many bytes a run takes for a row, and for an entry
abbrev pub row_bytes : Work → ℕ
row_bytes Facts = 24
row_bytes Order = 64
row_bytes Factor = 128

abbrev pub entry_bytes : Work → ℕ
entry_bytes Facts = 8
entry_bytes Order = 16
entry_bytes Factor = 32

-- how many bytes a run takes, about, for so many rows and entries
abbrev pub bytes_for : Work → ℕ → ℕ → ℕ
bytes_for work rows entries = min (row_bytes work * rows + entry_bytes work * entries) greatest

-- rows that take a gibibyte or more at 24 bytes each, and are more than there is of what should justify them
pub record IsUnjustified (rows source : ℕ) : Type 0 where
  pub more : source < rows
  pub large : 2 ^ 30 ≤ 24 * rows

-- the run may not: a limit is passed; or, where memory must be justified, the rows are not, by the bytes of a file or by
-- the entries where those are not known
abbrev pub AsksTooMuch : Allowance → Work → ℕ → ℕ → Option ℕ → Type 0
AsksTooMuch Any work rows entries bytes = ⊥
AsksTooMuch (Limit limit) work rows entries bytes = limit < bytes_for work rows entries
AsksTooMuch Justified work rows entries bytes = IsUnjustified rows (unwrap_or bytes entries)
