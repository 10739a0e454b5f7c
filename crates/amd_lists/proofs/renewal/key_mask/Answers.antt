use Rattle.std.proofs.Common.{refl}
use Rattle.amd_lists.specs.Renewal.{key_mask}
use Rattle.amd_lists.proofs.renewal.key_mask.Goals as goal

pub returns : goal.returns
unfolding key_mask
returns c = refl
