-- The numbers before what is left are those of the marks.
use Rattle.std.proofs.Common.{◌≡◌, ◌++◌, map, length}
use Rattle.amd_cases.specs.Items.{truth_number}
use Rattle.amd_cases.proofs.items.marks_of.Given as goal

abbrev pub invariant-numbers : goal.invariant-numbers
invariant-numbers g l = l.fn.numbers ≡ map truth_number l.marks.items ++ l.left

abbrev pub decreases-numbers : goal.decreases-numbers
decreases-numbers g l = length l.left
