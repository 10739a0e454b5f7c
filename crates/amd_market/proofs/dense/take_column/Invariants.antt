-- The values of the rows before were read.
use Rattle.std.proofs.Common.{◌-◌}
use Rattle.amd_market.specs.Arrays.{column_places}
use Rattle.amd_market.specs.Files.{TakesValues}
use Rattle.amd_market.proofs.dense.take_column.Given as goal

abbrev pub invariant-rows : goal.invariant-rows
invariant-rows g l = TakesValues g.R.Read.remaining l.fn.lines l.lines l.fn.header (column_places l.first l.column (l.row - l.first))
    l.fn.pairs.items l.pairs.items
