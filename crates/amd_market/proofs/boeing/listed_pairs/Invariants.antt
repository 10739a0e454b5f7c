-- The pairs of the columns before were listed.
use Rattle.std.proofs.Common.{◌≡◌}
use Rattle.std.specs.Prelude.{flat_map}
use Rattle.amd_market.specs.Headers.{pairs_of}
use Rattle.amd_market.specs.Boeing.{listed_entries}
use Rattle.amd_market.proofs.boeing.listed_pairs.Given as goal

abbrev pub invariant-columns : goal.invariant-columns
invariant-columns g l = l.pairs.items ≡ flat_map (pairs_of l.symmetry) (listed_entries l.pointers l.rows l.column)
