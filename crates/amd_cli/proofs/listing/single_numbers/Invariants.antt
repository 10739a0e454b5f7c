-- The numbers of the lines so far.
use Rattle.std.proofs.Common.{take}
use Rattle.std.specs.List.{AllZip}
use Rattle.amd_cli.specs.Orders.{IsSingle}
use Rattle.amd_cli.proofs.listing.single_numbers.Given as goal

abbrev pub invariant-lines : goal.invariant-lines
invariant-lines g l = AllZip IsSingle (take l.item-index l.listed) l.told.items
