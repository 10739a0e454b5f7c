use Rattle.std.proofs.Common.{◌/◌, subst}
use Rattle.amd_model.specs.Input.Dense.{IsGreatest}
use Rattle.amd_types.proofs.DenseRoots.{IsBelow, root_is}
use Rattle.amd_types.proofs.dense.dense_root.Goals as goal

pub returns-in-Some : goal.returns-in-Some
returns-in-Some c = subst (λ square. IsGreatest (IsBelow square) (c.isqrt.result / 1000)) c.in-Some.ensures.1
    (root_is _ c.isqrt.result c.isqrt.ensures.square_le c.isqrt.ensures.next_square_gt)
