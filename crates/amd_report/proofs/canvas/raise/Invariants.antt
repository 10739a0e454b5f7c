-- The cells so far are raised.
use Rattle.std.proofs.Common.{◌≡◌, ◌<◌, ◌≤◌, ◌+◌, ℕ}
use Rattle.std.specs.Prelude.{◌⊎◌, max, slice_index}
use Rattle.amd_report.proofs.canvas.raise.Given as goal

abbrev pub invariant-cells : goal.invariant-cells
invariant-cells l =
    ((cell : ℕ) → l.from ≤ cell → cell < l.cell → slice_index l.fronts cell ≡ max (slice_index l.fn.fronts cell) l.front)
    × ((cell : ℕ) → (cell < l.from) ⊎ (l.cell ≤ cell) → slice_index l.fronts cell ≡ slice_index l.fn.fronts cell)
    × (l.cell ≤ max l.from (l.last + 1))
