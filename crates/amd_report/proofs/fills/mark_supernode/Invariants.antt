-- The fill of the columns so far is marked.
use Rattle.std.proofs.Common.{◌≡◌, ◌≢◌, ◌≤◌, ◌%◌, ℕ, length}
use Rattle.std.specs.Prelude.{max, slice_index}
use Rattle.amd_report.specs.Grids.{HasCells}
use Rattle.amd_report.specs.Fills.{AddsFill, IsPartFill, IsReady}
use Rattle.amd_report.proofs.fills.mark_supernode.Given as goal

abbrev pub invariant-columns : goal.invariant-columns
invariant-columns g l =
    (length l.work.edge.items ≡ length l.fn.work.edge.items)
    × HasCells l.grid (length l.fn.work.edge.items)
    × ((j : ℕ) → slice_index l.work.edge.items j ≤ l.k)
    × AddsFill l.fn.grid l.grid (length l.fn.work.edge.items) (IsPartFill l.first l.k l.end l.below l.starts l.later)
    × (l.k ≢ l.first → l.k % max l.grid.step 1 ≢ 0 →
    IsReady l.grid (length l.fn.work.edge.items) l.k l.end l.below l.work.open.items)
