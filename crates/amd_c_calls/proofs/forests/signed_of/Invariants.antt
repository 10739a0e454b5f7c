use Rattle.std.proofs.Common.{◌≡◌, map, take}
use Rattle.amd_c_calls.proofs.forests.signed_of.Given as goal

abbrev pub invariant-numbers : goal.invariant-numbers
invariant-numbers g l = l.signed.items ≡ take l.k (map g.I.Index.value l.numbers)
