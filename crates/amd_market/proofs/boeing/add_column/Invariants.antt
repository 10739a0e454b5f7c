-- The pairs of the rows before were added.
use Rattle.std.proofs.Common.{◌≡◌, ◌++◌, take}
use Rattle.std.specs.Prelude.{flat_map}
use Rattle.amd_market.specs.Headers.{pairs_of}
use Rattle.amd_market.specs.Boeing.{column_entries}
use Rattle.amd_market.proofs.boeing.add_column.Given as goal

abbrev pub invariant-rows : goal.invariant-rows
invariant-rows g l = l.pairs.items ≡ l.fn.pairs.items ++ flat_map (pairs_of l.symmetry) (column_entries (take l.row-index l.rows) l.column)
