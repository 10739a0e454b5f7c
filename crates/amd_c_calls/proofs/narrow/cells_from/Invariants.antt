use Rattle.std.proofs.Common.{◌≡◌, take}
use Rattle.amd_c_calls.proofs.narrow.cells_from.Given as goal

abbrev pub invariant-counts : goal.invariant-counts
invariant-counts l = l.copy.items ≡ take l.count-index l.counts
