use Rattle.std.proofs.Common.{◌≡◌, length, map, take}
use Rattle.amd_calls.specs.Columns.{parent_number}
use Rattle.amd_calls.proofs.factors.write_parents.Given as goal

abbrev pub invariant-parents : goal.invariant-parents
invariant-parents g l = record {
  size : length l.numbers ≡ length l.parents;
  items : map g.I.Index.value (take l.k l.numbers) ≡ map parent_number (take l.k l.parents);
}
