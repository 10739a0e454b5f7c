use Rattle.std.proofs.Common.{◌≡◌, length, map, take}
use Rattle.amd_engine.proofs.amd_2.write_counts.Given as goal

abbrev pub invariant-words : goal.invariant-words
invariant-words g l = record {
  size : length l.numbers ≡ length l.words;
  items : map g.I.Index.value (take l.k l.numbers) ≡ take l.k l.words;
}
