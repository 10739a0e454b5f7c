-- The square had no marks before.
use Rattle.std.proofs.Common.{◌≡◌, ◌-◌, ℕ, zero, suc, arith, length, refl, replicate, subst, sym}
use Rattle.std.specs.Prelude.{slice_index}
use Rattle.amd_report.specs.Fills.{AddsFill, AreCuts, IsFillOf}
use Rattle.amd_report.specs.Grids.{HasCells}
use Rattle.amd_report.proofs.Cells.{square-same}
use Rattle.amd_report.proofs.Filling.{fill-all}
use Rattle.amd_report.proofs.fills.fill_grid.Goals as goal

-- a list of zeros has no other number
zeros : (n j : ℕ) → slice_index (replicate n 0) j ≡ 0
zeros zero j = refl
zeros (suc n) zero = refl
zeros (suc n) (suc j) = zeros n j

pub mark_supernodes-requires-clause-covers : goal.mark_supernodes-requires-clause-covers
mark_supernodes-requires-clause-covers g c =
    let long : length c.in_ok-vec.field-0.items ≡ c.args.n = omega (arith, c.in_ok-vec.ensures.len) in
    subst (HasCells c.in_ok-grid.grid) (sym long) c.in_ok-grid.ensures.covers

pub mark_supernodes-requires-clause-cuts : goal.mark_supernodes-requires-clause-cuts
mark_supernodes-requires-clause-cuts g c =
    let long : length c.in_ok-vec.field-0.items ≡ c.args.n = omega (arith, c.in_ok-vec.ensures.len) in
    subst (AreCuts c.args.first.now) (sym long) c.requires

pub mark_supernodes-requires-clause-stamps : goal.mark_supernodes-requires-clause-stamps
mark_supernodes-requires-clause-stamps g c =
    λ j. subst (λ z. slice_index z j ≡ 0) (sym (c.in_ok-vec.ensures.items_if_clones_equal (λ y e. e))) (zeros c.args.n j)

pub returns-clause-square : goal.returns-clause-square
returns-clause-square g c = square-same _ _ _ c.in_ok-mark_supernodes.ensures.same c.in_ok-grid.ensures.square

pub returns-clause-shows : goal.returns-clause-shows
returns-clause-shows g c =
    let fill = IsFillOf c.args.first.now c.args.ptr.now c.args.rows.now c.args.starts.now c.args.later.now (length c.args.first.now - 1) in
    let long : length c.in_ok-vec.field-0.items ≡ c.args.n = omega (arith, c.in_ok-vec.ensures.len) in
    fill-all c.in_ok-grid.grid c.mark_supernodes.new.grid c.args.n fill c.in_ok-grid.ensures.blank
    (subst (λ z. AddsFill c.in_ok-grid.grid c.mark_supernodes.new.grid z fill) long c.in_ok-mark_supernodes.ensures)
