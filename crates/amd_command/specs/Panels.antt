-- A picture of a matrix: two panels, each with the entries and the fill of the factor in an order of the rows.
use Rattle.std.specs.Prelude.{◌≡◌, ◌-◌, ℕ, Bool, true, Option, None, Some, List, [], MatchOption, map, pos}
use Rattle.std.specs.Option.{is_some}
use Rattle.amd_types.specs.Naturals.{naturals}
use Rattle.amd_factor.specs.Places.{ArePlaces}
use Rattle.amd_factor.specs.declared.needs.Need.{Need}
use Rattle.amd_market.specs.declared.matrices.Matrix.{Matrix}
use Rattle.amd_report.specs.declared.drawing.Panel.{Panel}
use Rattle.amd_report.specs.declared.grids.Grid.{Grid}
use Rattle.amd_report.specs.Grids.{IsSquareFor, ShowsPlaces, entry_places, lines_for}
use Rattle.amd_report.specs.Kinds.{AreKinds}
use Rattle.amd_report.specs.Pictures.{TellsPanels}
use Rattle.amd_command.specs.declared.picture.Drawn.{Drawn}
use Rattle.amd_command.specs.DrawnFills.{DrawsFill}
use Rattle.amd_command.specs.Needs.{IsNeedUnder, standing_rows}

-- the marks of a square; none where there is no square
abbrev pub marks_of : {A : Type 0} → Option (Grid A) → List ℕ
marks_of None = []
marks_of (Some g) = g.marks.items

-- the kinds of the cells are those of exactly the entries of the matrix, at their places in the order p, with their
-- mirrors or without, and of exactly the fill of the factor, unless that is left out; its number is told in any case
pub record IsPanel (A : Type 0) (n : ℕ) (ap ai p : List ℕ) (mirrored : Bool) (edges : ℕ) (panel : Panel A) : Type 0 where
  pub places : List ℕ
  pub placed : ArePlaces n (naturals (map pos p)) places
  pub entries : Grid A
  pub square : IsSquareFor entries n
  pub shows : ShowsPlaces entries (entry_places mirrored places ap ai n)
  pub fill : Option (Grid A)
  pub left_out : panel.has_fill ≡ is_some fill
  pub filled : MatchOption fill (Unit {0}) (λ g. DrawsFill g n ap ai p)
  pub kinds : AreKinds entries.marks.items (marks_of fill) panel.kinds.items
  pub need : Need
  pub needed : IsNeedUnder n ap ai p need
  pub counted : panel.fill ≡ need.lnz - edges

-- the panels that are told are that of the matrix as its rows stand, and that of the order p
pub record DrawsMatrix {A : Type 0} (m : Matrix A) (p : List ℕ) (symmetric : Bool) (edges : ℕ) (drawn : Drawn)
    (old new : Option (List ℕ)) : Type 0 where
  pub before : Panel A
  pub is_before : IsPanel A m.n m.a_p.items m.a_i.items (standing_rows m.n) symmetric edges before
  pub after : Panel A
  pub is_after : IsPanel A m.n m.a_p.items m.a_i.items p true edges after
  pub tells : TellsPanels (lines_for m.n) before.kinds.items after.kinds.items old new
  pub drawn_before : drawn.before ≡ before.has_fill
  pub drawn_after : drawn.after ≡ after.has_fill
