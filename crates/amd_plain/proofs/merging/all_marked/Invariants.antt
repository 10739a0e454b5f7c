use Rattle.std.proofs.Common.{◌≡◌, true, take}
use Rattle.amd_model.specs.Quotient.{each}
use Rattle.amd_plain.specs.Views.{mark_at}
use Rattle.amd_plain.proofs.merging.all_marked.Given as goal

abbrev pub invariant-loop-j : goal.invariant-loop-j
invariant-loop-j l = each (mark_at l.marks) (take l.j-index l.list) ≡ true
