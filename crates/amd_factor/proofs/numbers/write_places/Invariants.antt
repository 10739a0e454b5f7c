use Rattle.std.proofs.Common.{◌≡◌, length, map, pos, take}
use Rattle.amd_factor.proofs.numbers.write_places.Given as goal

abbrev pub invariant-places : goal.invariant-places
invariant-places g l = record {
  size : length l.numbers ≡ length l.places;
  items : map g.N.Index.value (take l.k l.numbers) ≡ map pos (take l.k l.places);
}
