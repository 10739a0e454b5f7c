-- The numbers so far.
use Rattle.std.proofs.Common.{take}
use Rattle.amd_cli.specs.Orders.{IsCountedFrom}
use Rattle.amd_cli.proofs.listing.counted_from.Given as goal

abbrev pub invariant-numbers : goal.invariant-numbers
invariant-numbers g l = IsCountedFrom l.base (take l.number-index l.told) l.numbers.items
