-- As many numbers were passed as turns are done, on one line.
use Rattle.amd_lines.specs.Words.{StaysInLine}
use Rattle.amd_market.specs.Entries.{BeginsValues}
use Rattle.amd_market.proofs.entries.behind_values.Given as goal

abbrev pub invariant-words : goal.invariant-words
invariant-words l = BeginsValues l._done l.text l.left × StaysInLine l.text l.left
