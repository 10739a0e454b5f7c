use Rattle.std.proofs.Common.{◌≡◌, ℕ, true, false, take}
use Rattle.amd_model.specs.Quotient.{has}
use Rattle.amd_plain.specs.Rounds.{plain_alike}
use Rattle.amd_plain.proofs.merging.first_alike.Given as goal

abbrev pub invariant-loop-r : goal.invariant-loop-r
invariant-loop-r g l = (r : ℕ) → has (take l.r-index l.group) r ≡ true →
    plain_alike l.lists.elements.items l.lists.variables.items l.i r ≡ false
