-- The places of the vertices so far, and the next vertex.
use Rattle.std.proofs.Common.{◌≡◌, ◌+◌, length, take}
use Rattle.amd_cli.specs.Orders.{ArePairsFrom}
use Rattle.amd_cli.proofs.listing.paired_numbers.Given as goal

abbrev pub invariant-lines : goal.invariant-lines
invariant-lines g l =
    ArePairsFrom l.base (take l.item-index l.listed) l.told.items × (l.wanted ≡ l.base + length l.told.items)
