-- The value is zero, or the pairs of its place were added.
use Rattle.amd_market.proofs.ArrayLemmas.{value-zero, value-other}
use Rattle.amd_market.proofs.FaultLemmas.{for-machine, for-weaker, handed-on}
use Rattle.amd_market.proofs.StopLemmas.{value-alone}
use Rattle.amd_market.proofs.dense.take_place.Goals as goal

pub returns-in_err-other-clause-fails : goal.returns-in_err-other-clause-fails
returns-in_err-other-clause-fails g c = handed-on _ c.from_residual.result c.from_residual.ensures.1
    (for-weaker _ _ _ (λ s h. value-alone _ _ s h) c.in_err-other.ensures.fails)

pub returns-then-not-other-clause-takes : goal.returns-then-not-other-clause-takes
returns-then-not-other-clause-takes g c =
    let read = c.in_ok-other.ensures.takes in
    value-zero _ _ _ _ read.0 _ _ read.1 (rw c.if-not-other.true at read.2)

pub returns-in-Ok-clause-takes : goal.returns-in-Ok-clause-takes
returns-in-Ok-clause-takes g c =
    let read = c.in_ok-other.ensures.takes in
    value-other _ _ _ _ read.0 _ _ _ read.1 (rw c.if-not-other.false at read.2) c.in-Ok.ensures

pub returns-in-Err-clause-fails : goal.returns-in-Err-clause-fails
returns-in-Err-clause-fails g c =
    let read = c.in_ok-other.ensures.takes.1 in
    for-machine _ _ _ read.lines _ _ read.takes c.at_line.ensures tt
