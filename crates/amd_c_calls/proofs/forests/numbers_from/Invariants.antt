use Rattle.std.proofs.Common.{◌≡◌, map, take}
use Rattle.amd_c_calls.proofs.forests.numbers_from.Given as goal

abbrev pub invariant-numbers : goal.invariant-numbers
invariant-numbers g l = map g.I.Index.value l.numbers.items ≡ take l.k l.signed
