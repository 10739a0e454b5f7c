use Rattle.std.proofs.Common.{ℕ, ◌≡◌, ◌<◌, ◌≤◌, ◌+◌}
use Rattle.std.specs.Prelude.{slice_index}
use Rattle.amd_factor.specs.Partitions.{NumbersNext, IsJoined}
use Rattle.amd_factor.proofs.partition.number_places.Given as goal

abbrev pub invariant-places : goal.invariant-places
invariant-places l = record {
  most : l.count ≤ l.k;
  begin : 0 < l.k → slice_index l.owner 0 ≡ 0;
  step : (i : ℕ) → i + 1 < l.k → NumbersNext (IsJoined l.sizes l.parent) i (slice_index l.owner i) (slice_index l.owner (i + 1));
  now : (i : ℕ) → i + 1 ≡ l.k → NumbersNext (IsJoined l.sizes l.parent) i (slice_index l.owner i) l.count;
  none : l.k ≡ 0 → l.count ≡ 0;
}
