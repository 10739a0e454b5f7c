-- One number was read after the other.
use Rattle.std.proofs.Common.{rules, w64}
use Rattle.std.proofs.Math.Facts.{to_z-of_z}
use Rattle.amd_cases.specs.Matrices.{wide_of}
use Rattle.amd_cases.proofs.MatrixLemmas.{not-negative, reads-two}
use Rattle.amd_cases.proofs.matrix.sizes.Goals as goal

pub returns : goal.returns
returns g c =
    let y = not-negative _ c.in_ok-columns.columns c.if-columns-lt0.false (to_z-of_z {w = w64} (search rules)) (search rules) in
    let z = not-negative _ c.in_ok-entries.entries c.if-entries-lt0.false (to_z-of_z {w = w64} (search rules)) (search rules) in (
      y.1,
      z.1,
      reads-two 8 wide_of _ _ _ c.in_ok-columns.columns c.in_ok-entries.entries _ _ c.in_ok-columns.ensures c.in_ok-entries.ensures
          y.0 z.0,
    )
