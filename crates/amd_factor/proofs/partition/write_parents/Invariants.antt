use Rattle.std.proofs.Common.{ℕ, ◌≡◌, ◌<◌}
use Rattle.std.specs.Prelude.{slice_index_or, None}
use Rattle.amd_factor.specs.Partitions.{last_of, owner_at}
use Rattle.amd_factor.proofs.partition.write_parents.Given as goal

abbrev pub invariant-supernodes : goal.invariant-supernodes
invariant-supernodes l = record {
  each : (t : ℕ) → t < l.s → slice_index_or l.over t None ≡ owner_at l.owner (slice_index_or l.parent (last_of l.first t) None);
}
