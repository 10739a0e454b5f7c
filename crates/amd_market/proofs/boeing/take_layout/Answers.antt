-- The next line was read, and it is at fault, or not.
use Rattle.std.proofs.Common.{◌∷◌, [], refl}
use Rattle.amd_market.proofs.FaultLemmas.{any-line, for-line, for-machine, for-weaker, handed-on}
use Rattle.amd_market.proofs.boeing.take_layout.Goals as goal

pub returns-in_err-take_some-clause-fails : goal.returns-in_err-take_some-clause-fails
returns-in_err-take_some-clause-fails g c = handed-on _ c.from_residual.result c.from_residual.ensures.1
    (for-weaker _ _ _ (λ s h. any-line _ s h) c.in_err-take_some.ensures.fails)

pub returns-in-None-clause-fails : goal.returns-in-None-clause-fails
returns-in-None-clause-fails g c =
    for-line c.in_ok-take_some.ensures.takes c.at_line-in-None.ensures (refl, rw (c.in-None.is, c.line.ensures) at c.in-Ok.ensures)

pub returns-in_default-clause-fails : goal.returns-in_default-clause-fails
returns-in_default-clause-fails g c =
    for-machine _ _ _ (_ ∷ []) _ _ c.in_ok-take_some.ensures.takes c.at_line.ensures tt
