-- The next line was read, and it is at fault, or not.
use Rattle.amd_market.proofs.FaultLemmas.{any-line, for-line, for-weaker, handed-on}
use Rattle.amd_market.proofs.boeing.take_kind.Goals as goal

pub returns-in_err-take_some-clause-fails : goal.returns-in_err-take_some-clause-fails
returns-in_err-take_some-clause-fails g c = handed-on _ c.from_residual.result c.from_residual.ensures.1
    (for-weaker _ _ _ (λ s h. any-line _ s h) c.in_err-take_some.ensures.fails)

pub returns-in-Err-clause-fails : goal.returns-in-Err-clause-fails
returns-in-Err-clause-fails g c =
    for-line c.in_ok-take_some.ensures.takes c.at_line.ensures (rw c.line.ensures at c.in-Err.ensures.fault)
