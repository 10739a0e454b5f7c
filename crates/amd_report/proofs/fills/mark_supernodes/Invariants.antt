-- The fill of the supernodes so far is marked.
use Rattle.std.proofs.Common.{◌≡◌, ◌≤◌, ℕ, length}
use Rattle.std.specs.Prelude.{slice_index}
use Rattle.amd_report.specs.Grids.{HasCells}
use Rattle.amd_report.specs.Fills.{AddsFill, IsFillOf}
use Rattle.amd_report.proofs.fills.mark_supernodes.Given as goal

abbrev pub invariant-supernodes : goal.invariant-supernodes
invariant-supernodes g l =
    (length l.work.edge.items ≡ length l.fn.work.edge.items)
    × HasCells l.grid (length l.fn.work.edge.items)
    × ((j : ℕ) → slice_index l.work.edge.items j ≤ slice_index l.first l.s)
    × AddsFill l.fn.grid l.grid (length l.fn.work.edge.items) (IsFillOf l.first l.ptr l.rows l.starts l.later l.s)
