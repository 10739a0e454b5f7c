use Rattle.std.proofs.Common.{◌≡◌, length, map, take}
use Rattle.amd_lending.specs.Views.{raised}
use Rattle.amd_engine.proofs.amd_2.copy_raised.Given as goal

abbrev pub invariant-words : goal.invariant-words
invariant-words l = record {
  size : length l.words ≡ length l.numbers;
  items : take l.k l.words ≡ map raised (take l.k l.numbers);
}
