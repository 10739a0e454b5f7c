use Rattle.std.proofs.Common.{refl}
use Rattle.amd_report.specs.Signs.{signs_of}
use Rattle.amd_report.proofs.signs.signs_of.Goals as goal

pub returns : goal.returns
unfolding signs_of
returns c = refl
