-- As many words were passed as turns are done, and they are numbers.
use Rattle.std.proofs.Common.{◌≡◌, ◌+◌, length}
use Rattle.std.specs.List.{list_all}
use Rattle.amd_lines.specs.Words.{words}
use Rattle.amd_market.specs.Entries.{is_value}
use Rattle.amd_market.proofs.entries.has_values.Given as goal

abbrev pub invariant-words : goal.invariant-words
invariant-words l = record {
  counted : length (words l.text) ≡ l._done + length (words l.left);
  numbers : list_all is_value (words l.text) ≡ list_all is_value (words l.left);
}
