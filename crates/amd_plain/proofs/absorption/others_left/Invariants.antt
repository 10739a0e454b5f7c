use Rattle.std.proofs.Common.{◌≡◌, not, take, filter}
use Rattle.amd_plain.specs.Rounds.{plain_mass}
use Rattle.amd_plain.proofs.absorption.others_left.Given as goal

abbrev pub invariant-loop-i : goal.invariant-loop-i
invariant-loop-i g l = l.rest.items ≡ filter (λ i. not (plain_mass l.lists.elements.items l.lists.variables.items i))
    (take l.i-index l.front)
