-- What stands in the answers: orderings of what a task has, what the factor needs under two orders, and texts.
use Rattle.std.specs.Prelude.{◌≡◌, if◌then◌else◌, ℕ, ℤ, Bool, true, false, Option, None, Some, List, [], ◌++◌, ◌||◌, length}
use Rattle.std.specs.Prelude.{map, option_map, pos, string_bytes}
use Rattle.std.specs.Str.Lossy.{utf8_lossy}
use Rattle.amd.specs.Answers.{IsOrderingHolding}
use Rattle.amd_types.specs.Statuses.{IsStatusOf}
use Rattle.amd_types.specs.declared.amd.Info.{Info}
use Rattle.amd_factor.specs.Counted.{IsCountsOf}
use Rattle.amd_factor.specs.declared.needs.Need.{Need}
use Rattle.amd_market.specs.declared.sources.Source.{Source}
use Rattle.amd_report.specs.declared.compare.Comparison.{Comparison}
use Rattle.amd_report.specs.declared.facts.Facts.{Facts}
use Rattle.amd_report.specs.Comparisons.{comparison_lines}
use Rattle.amd_report.specs.Degrees.{IsFacts}
use Rattle.amd_report.specs.Descriptions.{facts_text}
use Rattle.amd_report.specs.FactorJson.{analysis_json}
use Rattle.amd_report.specs.FactorTexts.{column_lines, comparison_text}
use Rattle.amd_report.specs.Json.{facts_json, order_json}
use Rattle.amd_report.specs.Texts.{figures_text, row_lines}
use Rattle.amd_cli.specs.declared.inputs.Task.{Task}
use Rattle.amd_cli.specs.declared.request.Options.{Options}
use Rattle.amd_command.specs.declared.answers.Texts.{Texts}
use Rattle.amd_command.specs.Lists.{ArePlacesIn, number_lines}
use Rattle.amd_command.specs.Needs.{IsNeedUnder, standing_rows}

-- the order is one of the task's matrix, with its control and its marks
pub record IsOrderingOf (task : Task) (p : List ℕ) (info : Info) : Type 0 where
  pub q : List ℤ
  pub ordering : IsOrderingHolding (option_map (λ v. v.items) task.hold) (pos task.matrix.n) task.control.dense
      task.control.aggressive (map pos task.matrix.a_p.items) (map pos task.matrix.a_i.items) (map pos p) q info

-- the first needs are those of the rows as they stand, the second those of the order p
pub record AreTwoNeeds (n : ℕ) (ap ai p : List ℕ) (stands ordered : Need) : Type 0 where
  pub as_they_stand : IsNeedUnder n ap ai (standing_rows n) stands
  pub in_order : IsNeedUnder n ap ai p ordered

-- the numbers of the lines: the row at each place, or the place of each row
abbrev pub AreNumbers : Bool → List ℕ → List ℕ → Type 0
AreNumbers true p numbers = ArePlacesIn p numbers
AreNumbers false p numbers = numbers ≡ p

-- the lines of numbers that count from 0, or from 1
abbrev pub lines_of : Bool → List ℕ → List ℕ
lines_of zero_based numbers = if zero_based then number_lines numbers else row_lines numbers

-- what is written first of an ordering: one object, or a line for each row
abbrev pub TellsOrder : Options → Info → ℕ → Option Comparison → List ℕ → List ℕ → Type 0
TellsOrder o info repeats compared p text =
    (o.json ≡ true → text ≡ order_json info repeats compared p)
    × (o.json ≡ false → (numbers : List ℕ) × AreNumbers o.inverse p numbers × (text ≡ lines_of o.zero_based numbers))

-- the counts are those of the factor of the task's matrix under the order
abbrev pub AreCountsIn : Task → List ℕ → List ℕ → List (Option ℕ) → Need → Type 0
AreCountsIn task p sizes parents need = IsCountsOf (pos task.matrix.n) (map pos task.matrix.a_p.items)
    (map pos task.matrix.a_i.items) (map pos p) sizes parents need

-- what is written first of an analysis: one object, or a line for each column
abbrev pub TellsColumns : Bool → ℕ → Info → List ℕ → List ℕ → List (Option ℕ) → Need → List ℕ → Type 0
TellsColumns true repeats info p sizes parents need text = text ≡ analysis_json info repeats need p parents sizes
TellsColumns false repeats info p sizes parents need text = text ≡ column_lines p sizes parents (length p)

-- the figures that are told of an analysis: each beside its bound; none where it is told as one object
abbrev pub TellsBounds : Bool → ℕ → Info → Need → List ℕ → Type 0
TellsBounds true repeats info need figures = figures ≡ []
TellsBounds false repeats info need figures = figures ≡ utf8_lossy (comparison_text need info repeats)

-- the texts are those of an ordering of the task's matrix, and of the factor under it
pub record TellsAnalysis (task : Task) (json : Bool) (t : Texts) : Type 0 where
  pub p : List ℕ
  pub info : Info
  pub ordering : IsOrderingOf task p info
  pub sizes : List ℕ
  pub parents : List (Option ℕ)
  pub need : Need
  pub counted : AreCountsIn task p sizes parents need
  pub tells : TellsColumns json task.matrix.repeats info p sizes parents need t.lines.items
  pub bounds : TellsBounds json task.matrix.repeats info need (string_bytes t.figures)
  pub alone : (t.factor ≡ None) × (t.permuted ≡ None) × (t.tree ≡ None) × (t.postorder ≡ None)

-- the lines on what the factor needs under each order, where that is known
abbrev pub known_lines : Option Comparison → List ℕ
known_lines None = []
known_lines (Some compared) = comparison_lines compared

-- the figures of an ordering, and what the factor needs under each order, where that is known
abbrev pub order_figures : Info → ℕ → Option Comparison → List ℕ
order_figures info repeats compared = figures_text info repeats ++ known_lines compared

-- the figures that are told of an ordering; none where it is told as one object, or nothing is to be told
abbrev pub told_figures : Options → Info → ℕ → Option Comparison → List ℕ
told_figures o info repeats compared =
    if o.json || o.quiet then [] else utf8_lossy (order_figures info repeats compared)

-- what is written of a matrix, and of what its factor needs where that is known: one object, or lines
abbrev pub facts_answer : Bool → Facts → Option Comparison → List ℕ
facts_answer true f compared = facts_json f compared
facts_answer false f compared = facts_text f ++ known_lines compared

-- what is written is what the matrix is, for a dense row parameter of t thousandths, and what its file says
pub record TellsFacts (json : Bool) (n : ℕ) (t : ℤ) (ap ai : List ℕ) (source : Source) (repeats : ℕ)
    (compared : Option Comparison) (text : List ℕ) : Type 0 where
  pub facts : Facts
  pub are_facts : IsFacts n t (map pos ap) (map pos ai) facts
  pub status : IsStatusOf (pos n) (pos n) (map pos ap) (map pos ai) facts.info.status
  pub said : facts.source ≡ source
  pub dropped : facts.duplicates ≡ repeats
  pub tells : text ≡ facts_answer json facts compared
