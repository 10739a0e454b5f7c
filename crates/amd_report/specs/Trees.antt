-- The picture of a tree of supernodes.
use Rattle.std.specs.Prelude.{◌≡◌, ◌+◌, ◌*◌, ◌/◌, ◌<◌, ℕ, zero, suc, List, Option, codes, length, max, min, slice_index}
use Rattle.amd_report.specs.declared.canvas.Canvas.{Canvas}
use Rattle.amd_report.specs.Canvases.{ShowsFronts}
use Rattle.amd_report.specs.Layouts.{IsLayout}
use Rattle.amd_report.specs.Pictures.{TellsAmong, TellsShades}

-- how dark a front is where the largest one has most rows: 0 for none, and else from 1 up to 17
abbrev pub shade_of : ℕ → ℕ → ℕ
shade_of most zero = 0
shade_of most (suc front) = 1 + min (min (suc front) most * 16 / max most 1) 16

-- the cells have the shades of their fronts
pub record AreShades (fronts : List ℕ) (most : ℕ) (shades : List ℕ) : Type 0 where
  pub size : length shades ≡ length fronts
  pub each : (cell : ℕ) → cell < length fronts → slice_index shades cell ≡ shade_of most (slice_index fronts cell)

-- the picture of the tree of supernodes that begin at these columns, have these pointers to the rows below their blocks
-- and these parents: each cell shows the largest front of the blocks that lie in it, in a layout of the tree
pub record DrawsTree (A : Type 0) (first ptr : List ℕ) (parents : List (Option ℕ)) (old new : Option (List ℕ)) : Type 0 where
  pub left : List ℕ
  pub width : List ℕ
  pub level : List ℕ
  pub layout : IsLayout first parents left width level
  pub canvas : Canvas A
  pub shows : ShowsFronts canvas first ptr left width level (length parents)
  pub most : ℕ
  pub shades : List ℕ
  pub shaded : AreShades canvas.fronts.items most shades
  pub shapes : List ℕ
  pub tells : TellsShades canvas.side shades (codes "#1f4e79") 17 shapes
  pub told : TellsAmong old new shapes
