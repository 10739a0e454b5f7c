-- The lines cover the rows, and there is no more of them than the picture is wide.
use Rattle.std.proofs.Common.{◌≡◌, ◌*◌, ◌∙◌, ℕ, ap, arith, length, subst}
use Rattle.std.specs.Int.{div_ceil}
use Rattle.std.specs.Prelude.{max, min}
use Rattle.amd_report.proofs.Cells.{square-covers, square-of}
use Rattle.amd_report.proofs.grids.Grid.new.Goals as goal

pub returns-clause-square : goal.returns-clause-square
returns-clause-square g c =
    let step : ℕ = c.max-step.result in
    let side : ℕ = c.div_ceil-side.result in
    let is_step = c.max-step.ensures ∙ ap (λ z. max z 1) c.div_ceil.ensures in
    let is_side = subst (λ z. side ≡ div_ceil c.args.rows z) is_step c.div_ceil-side.ensures in
    let cells : length c.in_ok-marks.marks.items ≡ min (side * side) 18446744073709551615 =
    omega (arith, c.in_ok-marks.ensures.len, c.saturating_mul.ensures) in
    square-of {A = g.row.A.Denot} (record { step = step; side = side; marks = c.in_ok-marks.marks }) c.args.rows is_step is_side cells

pub returns-clause-covers : goal.returns-clause-covers
returns-clause-covers g c =
    square-covers {A = g.row.A.Denot} (record { step = c.max-step.result; side = c.div_ceil-side.result; marks = c.in_ok-marks.marks })
    c.args.rows (returns-clause-square g c)
