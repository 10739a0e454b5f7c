use Rattle.std.proofs.Common.{◌≡◌, ◌≤◌, length, take}
use Rattle.std.specs.Vec.{vec_capacity}
use Rattle.amd_engine_tests.proofs.tests.trees.words_of.Given as goal

abbrev pub invariant-numbers : goal.invariant-numbers
invariant-numbers g l = record {
  room : length l.numbers ≤ vec_capacity l.words;
  items : l.words.items ≡ take l.number-index l.numbers;
}
