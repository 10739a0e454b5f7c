use Rattle.std.proofs.Common.{◌≡◌, length, map, pos, take}
use Rattle.std.proofs.Math.ListN.{replicate}
use Rattle.amd_factor.proofs.below.clear.Given as goal

abbrev pub invariant-numbers : goal.invariant-numbers
invariant-numbers g l = record {
  size : length l.numbers ≡ length l.initial.numbers;
  items : map g.I.Index.value (take l.k l.numbers) ≡ map pos (replicate l.k 0);
}
