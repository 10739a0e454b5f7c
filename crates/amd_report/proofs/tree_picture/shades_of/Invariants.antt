-- The shades so far are those of the cells.
use Rattle.std.proofs.Common.{◌≡◌, ◌<◌, ℕ, length}
use Rattle.std.specs.Prelude.{slice_index}
use Rattle.amd_report.specs.Trees.{shade_of}
use Rattle.amd_report.proofs.tree_picture.shades_of.Given as goal

abbrev pub invariant-cells : goal.invariant-cells
invariant-cells g l =
    (length l.shades.items ≡ l.front-index)
    × ((cell : ℕ) → cell < l.front-index → slice_index l.shades.items cell ≡ shade_of l.most (slice_index l.fronts cell))
