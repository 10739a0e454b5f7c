-- The values of the columns before were read.
use Rattle.std.proofs.Common.{[]}
use Rattle.amd_market.specs.Arrays.{array_places}
use Rattle.amd_market.specs.Files.{TakesValues}
use Rattle.amd_market.proofs.dense.take_values.Given as goal

abbrev pub invariant-columns : goal.invariant-columns
invariant-columns g l = TakesValues g.R.Read.remaining l.fn.lines l.lines l.fn.header
    (array_places l.fn.header.symmetry l.n l.column) [] l.pairs.items
