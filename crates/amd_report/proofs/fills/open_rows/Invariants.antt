-- The rows of the block so far are open.
use Rattle.std.proofs.Common.{◌<◌, ◌≤◌, ℕ}
use Rattle.std.specs.Prelude.{Contains}
use Rattle.amd_report.proofs.fills.open_rows.Given as goal

abbrev pub invariant-block : goal.invariant-block
invariant-block g l =
    ((j : ℕ) → l.k < j → j < l.row → Contains l.open.items j) × ((j : ℕ) → Contains l.open.items j → j < l.end)
    × (l.row ≤ l.end)
