use Rattle.amd_types.proofs.DenseRoots.{root_is}
use Rattle.amd_types.proofs.dense.wide_root.Goals as goal

pub returns : goal.returns
returns c = root_is _ c.isqrt.result c.isqrt.ensures.square_le c.isqrt.ensures.next_square_gt
