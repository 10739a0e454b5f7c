use Rattle.std.proofs.Common.{◌≡◌, ◌+◌, take, sum_by}
use Rattle.amd_model.specs.Figures.{cut}
use Rattle.amd_plain.specs.Views.{num}
use Rattle.amd_plain.proofs.bounds.sum_at.Given as goal

abbrev pub invariant-loop-j : goal.invariant-loop-j
invariant-loop-j l = l.total ≡ cut (l.first + sum_by (num l.numbers) (take l.j-index l.list))
