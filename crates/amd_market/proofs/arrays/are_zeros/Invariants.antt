-- The words before what is left are zero.
use Rattle.std.proofs.Common.{◌≡◌, length}
use Rattle.std.specs.List.{list_all}
use Rattle.amd_lines.specs.Words.{words}
use Rattle.amd_market.specs.Arrays.{is_zero}
use Rattle.amd_market.proofs.arrays.are_zeros.Given as goal

abbrev pub invariant-words : goal.invariant-words
invariant-words l = list_all is_zero (words l.text) ≡ list_all is_zero (words l.left)

abbrev pub decreases-words : goal.decreases-words
decreases-words l = length l.left
