use Rattle.amd.proofs.OneAnswer.{nothing_held}
use Rattle.amd.proofs.laws.law_nothing_held.Goals as goal

pub returns : goal.returns
returns c = nothing_held
