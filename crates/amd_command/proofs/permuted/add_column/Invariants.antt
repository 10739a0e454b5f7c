-- The pairs of the rows so far stand behind those before.
use Rattle.std.proofs.Common.{◌≡◌, ◌++◌, take}
use Rattle.amd_command.specs.Permuted.{placed_pairs}
use Rattle.amd_command.proofs.permuted.add_column.Given as goal

abbrev pub invariant-rows : goal.invariant-rows
invariant-rows g l = l.pairs.items ≡ l.fn.pairs.items ++ placed_pairs l.places l.column (take l.row-index l.rows)
