-- What the words of a command line ask for.
use Rattle.std.specs.Prelude.{◌≡◌, ◌||◌, if◌then◌else◌, ℕ, ℤ, Bool, true, false, not, Option, None, Some, List, codes, pos}
use Rattle.std.specs.Prelude.{option_map, unwrap_or}
use Rattle.std.specs.Borrow.{Bor}
use Rattle.clap.specs.Simple.{HasMatchesOf, app_of, subcommand_rows_of}
use Rattle.clap.specs.declared.builder.command.Command.{Command}
use Rattle.clap.specs.Matches.{first_value, found_of, has_subcommand, one_text, subcommand_name_of}
use Rattle.clap.specs.Walk.{rows_of}
use Rattle.clap.specs.declared.parser.matches.ArgMatches.{ArgMatches}
use Rattle.amd_types.specs.declared.amd.Control.{Control}
use Rattle.amd_cli.specs.Limits.{SpellsLimit}
use Rattle.amd_cli.specs.Numbers.{SpellsThousandths}
use Rattle.amd_cli.specs.declared.request.Allowance.{Allowance}
use Rattle.amd_cli.specs.declared.request.Allowance.TheVariants.{Justified, Any, Limit}
use Rattle.amd_cli.specs.declared.request.Options.{Options}
use Rattle.amd_cli.specs.declared.request.Request.{Request}
use Rattle.amd_cli.specs.declared.request.Request.TheVariants.{Order, Analyze, Info}

-- a flag is set exactly where it was given
pub record IsFlag (m : ArgMatches) (id : List ℕ) (set : Bool) : Type 0 where
  pub absent : one_text (found_of m) id ≡ None → set ≡ false
  pub given : one_text (found_of m) id ≡ Some (codes "true") → set ≡ true
  pub refused : one_text (found_of m) id ≡ Some (codes "false") → set ≡ false

-- a comparison is asked for by either of its names
pub record AsksComparison (m : ArgMatches) (set : Bool) : Type 0 where
  pub compared : Bool
  pub by_compare : IsFlag m (codes "compare") compared
  pub counted : Bool
  pub by_exact : IsFlag m (codes "exact") counted
  pub either : set ≡ (compared || counted)

-- the text behind an option, where it was given
abbrev pub IsText : ArgMatches → List ℕ → Option (Bor (List ℕ)) → Type 0
IsText m id text = option_map (λ s. s.now) text ≡ first_value (found_of m) id

-- each option is what was given under its name
pub record AreOptionsOf (m : ArgMatches) (o : Options) : Type 0 where
  pub file : o.file.now ≡ unwrap_or (first_value (found_of m) (codes "FILE")) (codes "-")
  pub dense : IsText m (codes "dense") o.dense
  pub refused : Bool
  pub by_no_aggressive : IsFlag m (codes "no-aggressive") refused
  pub aggressive : o.aggressive ≡ not refused
  pub hold : IsText m (codes "hold") o.hold
  pub out : IsText m (codes "out") o.out
  pub json : IsFlag m (codes "json") o.json
  pub progress : IsFlag m (codes "progress") o.progress
  pub compare : AsksComparison m o.compare
  pub with_order : IsText m (codes "with") o.with
  pub with_inverse : IsText m (codes "with-inverse") o.with_inverse
  pub inverse : IsFlag m (codes "inverse") o.inverse
  pub zero_based : IsFlag m (codes "zero-based") o.zero_based
  pub quiet : IsFlag m (codes "quiet") o.quiet
  pub yes : IsFlag m (codes "yes") o.yes
  pub memory : IsText m (codes "memory") o.memory
  pub factor : IsText m (codes "factor") o.factor
  pub permuted : IsText m (codes "permuted") o.permuted
  pub tree : IsText m (codes "tree") o.tree
  pub postorder : IsText m (codes "postorder") o.postorder
  pub picture : IsText m (codes "picture") o.picture
  pub symmetric : IsFlag m (codes "symmetric") o.symmetric
  pub tree_picture : IsText m (codes "tree-picture") o.tree_picture

-- the matches are those of the subcommand that was found: they have its rows
abbrev pub AreOfSubcommand : ArgMatches → ArgMatches → Type 0
AreOfSubcommand m found = Some (rows_of (found_of found)) ≡ option_map (λ p. p.1) (subcommand_rows_of m)

-- the options are those of the subcommand that was found
abbrev pub AsksOptions : ArgMatches → Options → Type 0
AsksOptions m o = (found : ArgMatches) × AreOfSubcommand m found × AreOptionsOf found o

-- the request is that of the subcommand that was found, with its options
abbrev pub AsksFor : ArgMatches → Request → Type 0
AsksFor m (Order o) = (subcommand_name_of m ≡ Some (codes "order")) × AsksOptions m o
AsksFor m (Analyze o) = (subcommand_name_of m ≡ Some (codes "analyze")) × AsksOptions m o
AsksFor m (Info o) = has_subcommand m ≡ true → AsksOptions m o

-- the request is that of the matches that a command has on the words
abbrev pub AsksInWords : List (List ℕ) → Request → Type 0
AsksInWords words r = (c : Command) × (m : ArgMatches) × HasMatchesOf (app_of c) words m × AsksFor m r

-- the dense row parameter is the number that was given, or 10
abbrev pub IsDense : Option (Bor (List ℕ)) → ℤ → Type 0
IsDense None d = d ≡ pos 10000
IsDense (Some text) d = SpellsThousandths text.now d

-- what an ordering is controlled by is what was given
pub record IsControlOf (o : Options) (c : Control) : Type 0 where
  pub aggressive : c.aggressive ≡ o.aggressive
  pub dense : IsDense o.dense c.dense

-- the memory that a run may take is the number of bytes that was given
abbrev pub IsLimitIn : List ℕ → Allowance → Type 0
IsLimitIn text a = (bytes : ℕ) × SpellsLimit text bytes × (a ≡ Limit bytes)

-- it is that, or any where a flag says so, and else what is justified
abbrev pub AllowsMemory : Option (Bor (List ℕ)) → Bool → Allowance → Type 0
AllowsMemory (Some text) set a = IsLimitIn text.now a
AllowsMemory None set a = a ≡ (if set then Any else Justified)

abbrev pub IsAllowanceOf : Options → Allowance → Type 0
IsAllowanceOf o a = AllowsMemory o.memory o.yes a
