use Rattle.std.proofs.Common.{◌≡◌, map, pos, take}
use Rattle.amd_types.proofs.permutations.numbers_of.Given as goal

abbrev pub invariant-rows : goal.invariant-rows
invariant-rows g l = map g.I.Index.value l.numbers.items ≡ map pos (take l.k l.rows)
