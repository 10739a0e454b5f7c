use Rattle.std.proofs.Common.{◌≡◌, length, take}
use Rattle.amd_c_calls.proofs.narrow.write_words.Given as goal

abbrev pub invariant-words : goal.invariant-words
invariant-words l = record {
  size : length l.numbers ≡ length l.words;
  items : take l.k l.numbers ≡ take l.k l.words;
}
