use Rattle.std.proofs.Common.{◌≡◌, take, sum_by}
use Rattle.amd_plain.specs.Views.{num}
use Rattle.amd_plain.proofs.absorption.rows_of.Given as goal

abbrev pub invariant-loop-i : goal.invariant-loop-i
invariant-loop-i l = l.total ≡ sum_by (num l.size) (take l.i-index l.list)
