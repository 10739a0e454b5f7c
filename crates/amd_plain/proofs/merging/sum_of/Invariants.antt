use Rattle.std.proofs.Common.{◌≡◌, take}
use Rattle.amd_plain.specs.Groups.{wrapped_sum}
use Rattle.amd_plain.proofs.merging.sum_of.Given as goal

abbrev pub invariant-loop-j : goal.invariant-loop-j
invariant-loop-j l = l.total ≡ wrapped_sum (take l.j-index l.list)
