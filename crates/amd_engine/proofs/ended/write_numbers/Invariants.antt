use Rattle.std.proofs.Common.{◌≡◌, length, map, pos, take}
use Rattle.amd_engine.proofs.ended.write_numbers.Given as goal

abbrev pub invariant-figures : goal.invariant-figures
invariant-figures g l = record {
  size : length l.numbers ≡ length l.figures;
  items : map g.I.Index.value (take l.k l.numbers) ≡ map pos (take l.k l.figures);
}
