use Rattle.std.proofs.Common.{◌≡◌, length, take}
use Rattle.amd_c_calls.proofs.narrow.copy_numbers.Given as goal

abbrev pub invariant-numbers : goal.invariant-numbers
invariant-numbers l = record {
  size : length l.words ≡ length l.initial.words;
  items : take l.k l.words ≡ take l.k l.numbers;
}
