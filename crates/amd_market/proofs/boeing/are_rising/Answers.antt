-- At the end all numbers were passed; before, one is below that before it.
use Rattle.std.proofs.Common.{arith, refl}
use Rattle.amd_market.proofs.boeing.are_rising.Goals as goal

pub returns : goal.returns
returns c = (λ _ j h. c.places.invariant j (omega arith), λ h. refl)
