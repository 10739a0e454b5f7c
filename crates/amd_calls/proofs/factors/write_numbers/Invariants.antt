use Rattle.std.proofs.Common.{◌≡◌, length, map, pos, take}
use Rattle.amd_calls.proofs.factors.write_numbers.Given as goal

abbrev pub invariant-naturals : goal.invariant-naturals
invariant-naturals g l = record {
  size : length l.numbers ≡ length l.naturals;
  items : map g.I.Index.value (take l.k l.numbers) ≡ map pos (take l.k l.naturals);
}
