use Rattle.std.proofs.Common.{◌≡◌, ◌≤◌, length, take}
use Rattle.std.specs.Vec.{vec_capacity}
use Rattle.amd_engine_tests.proofs.tests.own_lists.words_of.Given as goal

abbrev pub invariant-words : goal.invariant-words
invariant-words g l = record {
  room : length l.words ≤ vec_capacity l.numbers;
  items : l.numbers.items ≡ take l.k l.words;
}
