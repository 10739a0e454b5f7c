use Rattle.std.proofs.Common.{arith}
use Rattle.amd_lists.specs.Sizes.{bucket_count}
use Rattle.amd_lists.proofs.work.bucket_count.Goals as goal

pub returns : goal.returns
unfolding bucket_count
returns c = let e = c.div_ceil.ensures in omega (arith, e)
