use Rattle.std.proofs.Common.{map}
use Rattle.amd_factor.proofs.Lists.Inverse.{PlacesUpTo}
use Rattle.amd_factor.proofs.places.place_rows.Given as goal

abbrev pub invariant-rows : goal.invariant-rows
invariant-rows g l = PlacesUpTo l.size (map g.I.Index.value l.p) l.k l.places
