-- Each turn reads one number more.
use Rattle.std.proofs.Common.{refl, arith}
use Rattle.std.proofs.lemmas.Grind.{common_steps}
use Rattle.amd_cases.specs.Matrices.{wide_of}
use Rattle.amd_cases.proofs.MatrixLemmas.{reads-more}
use Rattle.amd_cases.proofs.matrix.wide_numbers.Goals as goal

pub numbers-preserved : goal.numbers-preserved
numbers-preserved g c = (
  reads-more g.I.Index.value 8 wide_of _ _ _ _ _ c.in_ok-number.number (g.I.Index.value c.in_ok-number.number) c.numbers.invariant.0
      c.in_ok-number.ensures refl c.in_ok-push.ensures.items,
  grind (arith, common_steps),
)
