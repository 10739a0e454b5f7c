use Rattle.amd_symbolic.proofs.BlocksInside.{exact-blocks-stand-inside}
use Rattle.amd_symbolic.proofs.supernode_laws.law_exact_blocks_stand_inside.Goals as goal

pub returns : goal.returns
returns c = exact-blocks-stand-inside
