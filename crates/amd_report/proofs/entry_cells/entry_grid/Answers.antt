-- Each turn marks the entries of one column more.
use Rattle.std.proofs.Common.{◌≡◌, arith, subst}
use Rattle.amd_report.specs.Grids.{ShowsPlaces, entry_places}
use Rattle.amd_report.proofs.Cells.{places-next, square-same}
use Rattle.amd_report.proofs.entry_cells.entry_grid.Goals as goal

pub columns-init : goal.columns-init
columns-init g c = (c.in_ok-grid.ensures.square, c.in_ok-grid.ensures.blank)

pub columns-preserved : goal.columns-preserved
columns-preserved g c = (
  square-same _ _ _ c.mark_column.ensures.same c.columns.invariant.0,
  places-next _ _ c.args.mirrored c.args.places.now c.args.a_p.now c.args.a_i.now _ c.columns.j _ c.rows_between-rows.ensures
      c.place_of-column.ensures c.columns.invariant.1 c.mark_column.ensures.shows,
)

pub returns-clause-square : goal.returns-clause-square
returns-clause-square g c = c.columns.invariant.0

pub returns-clause-shows : goal.returns-clause-shows
returns-clause-shows g c =
    let e : c.columns.j ≡ c.args.n = (let t = c.columns-test.false in let a = c.columns.auto.j-end in omega (arith, t, a)) in
    subst (λ z. ShowsPlaces c.columns.grid (entry_places c.args.mirrored c.args.places.now c.args.a_p.now c.args.a_i.now z)) e
    c.columns.invariant.1
