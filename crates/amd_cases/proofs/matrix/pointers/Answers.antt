-- The last pointer is read behind the others.
use Rattle.std.proofs.Common.{refl, ◌∙◌, w64}
use Rattle.std.proofs.Math.Facts.{to_z-of_z}
use Rattle.amd_cases.specs.Matrices.{wide_of}
use Rattle.amd_cases.proofs.MatrixLemmas.{reads-more, ends-more}
use Rattle.amd_cases.proofs.matrix.pointers.Goals as goal

pub returns : goal.returns
returns g c = (
  reads-more g.I.Index.value 8 wide_of _ _ _ _ _ c.in_ok-last.last (g.I.Index.value c.in_ok-last.last) c.in_ok-numbers.ensures.0
      c.in_ok-last.ensures.1 refl c.in_ok-push.ensures.items,
  ends-more g.I.Index.value _ _ c.in_ok-last.last _ _ _ c.in_ok-numbers.ensures.1 refl
      (c.in_ok-last.ensures.0 ∙ to_z-of_z {w = w64} c.ranges.entries) c.in_ok-push.ensures.items,
)
