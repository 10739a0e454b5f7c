-- What the factor needs under several orders of the rows: as they stand, as they are ordered, and as a file lists them.
use Rattle.std.specs.Prelude.{◌≡◌, ◌/◌, ℕ, ℤ, Bool, true, false, Option, None, Some, List, IfSome, MatchOption, map, pos}
use Rattle.amd.specs.Answers.{IsOrderingHolding}
use Rattle.amd_types.specs.declared.amd.Control.{Control}
use Rattle.amd_types.specs.declared.amd.Info.{Info}
use Rattle.amd_factor.specs.declared.needs.Need.{Need}
use Rattle.amd_market.specs.declared.sources.Source.{Source}
use Rattle.amd_report.specs.declared.compare.Comparison.{Comparison}
use Rattle.amd_cli.specs.declared.request.Options.{Options}
use Rattle.amd_command.specs.Answers.{AreTwoNeeds, TellsFacts}
use Rattle.amd_command.specs.Lists.{AreRowsListed}
use Rattle.amd_command.specs.Needs.{IsNeedUnder}

-- where needs are compared they are those of the rows as they stand and of the order p, each in its place, with the
-- rows and the edges that the ordering tells
abbrev pub Compares : Bool → ℕ → List ℕ → List ℕ → List ℕ → Info → Option Comparison → Type 0
Compares false n ap ai p info compared = compared ≡ None
Compares true n ap ai p info None = ⊥
Compares true n ap ai p info (Some c) =
    AreTwoNeeds n ap ai p c.stands c.ordered × (c.edges ≡ info.nz_a_plus_at / 2) × (c.rows ≡ info.n)

-- the needs that are told are those under an order that numbers tell: the row at each place, or the place of each row,
-- as which they are taken where that is asked for
pub record TellsListed (n : ℕ) (ap ai : List ℕ) (inverse : Bool) (need : Need) : Type 0 where
  pub numbers : List ℕ
  pub are_places : Bool
  pub as_asked : inverse ≡ true → are_places ≡ true
  pub rows : List ℕ
  pub listed : AreRowsListed n are_places numbers rows
  pub under : IsNeedUnder n ap ai rows need

-- the needs under the order of a file, exactly where one is named
abbrev pub TellsOther : Options → ℕ → List ℕ → List ℕ → Option Need → Type 0
TellsOther o n ap ai other = MatchOption o.with
    (MatchOption o.with_inverse (other ≡ None) (λ path. MatchOption other ⊥ (TellsListed n ap ai true)))
    (λ path. MatchOption other ⊥ (TellsListed n ap ai false))

-- the needs are compared with those of an ordering of the matrix, with this control and no marks
pub record ComparesAnOrdering (c : Control) (n : ℕ) (ap ai : List ℕ) (compared : Option Comparison) : Type 0 where
  pub p : List ℕ
  pub q : List ℤ
  pub info : Info
  pub ordering : IsOrderingHolding None (pos n) c.dense c.aggressive (map pos ap) (map pos ai) (map pos p) q info
  pub compares : Compares true n ap ai p info compared

-- and so where that is asked for
abbrev pub ComparesOrdered : Bool → Control → ℕ → List ℕ → List ℕ → Option Comparison → Type 0
ComparesOrdered false c n ap ai compared = compared ≡ None
ComparesOrdered true c n ap ai compared = ComparesAnOrdering c n ap ai compared

-- what is written is what the matrix is, for this control, and what its factor needs where that is asked for
pub record TellsInfo (o : Options) (c : Control) (n : ℕ) (ap ai : List ℕ) (source : Source) (repeats : ℕ)
    (text : List ℕ) : Type 0 where
  pub compared : Option Comparison
  pub compares : ComparesOrdered o.compare c n ap ai compared
  pub other : IfSome compared (λ told. TellsOther o n ap ai told.other)
  pub tells : TellsFacts o.json n c.dense ap ai source repeats compared text
