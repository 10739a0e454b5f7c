-- Where there are right-hand sides, the line about them was read.
use Rattle.std.proofs.Common.{arith}
use Rattle.std.proofs.lemmas.Result.{IfErr-weaker}
use Rattle.amd_market.proofs.FaultLemmas.{for-weaker}
use Rattle.amd_market.proofs.boeing.take_extra.Goals as goal

pub returns-clause-fails : goal.returns-clause-fails
returns-clause-fails g c =
    IfErr-weaker c.take_some.result _ _ (λ e k. for-weaker _ _ e (λ s h. (omega arith, h)) k) c.take_some.ensures.fails
