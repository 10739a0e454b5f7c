use Rattle.std.proofs.Common.{◌≡◌}
use Rattle.amd_model.specs.Below.{count_below}
use Rattle.amd_plain.specs.Views.{mark_at}
use Rattle.amd_plain.proofs.start.count_marks.Given as goal

abbrev pub invariant-loop-mark : goal.invariant-loop-mark
invariant-loop-mark l = record {
  count : l.count ≡ count_below l.mark-index (mark_at l.marks);
}
