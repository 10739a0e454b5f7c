-- As many words were passed as turns are done.
use Rattle.std.proofs.Common.{◌≡◌, ◌+◌, length}
use Rattle.amd_lines.specs.Words.{words}
use Rattle.amd_market.proofs.entries.value_fault.Given as goal

abbrev pub invariant-words : goal.invariant-words
invariant-words l = length (words l.text) ≡ l._done + length (words l.left)
