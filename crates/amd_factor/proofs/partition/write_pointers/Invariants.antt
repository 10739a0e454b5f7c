use Rattle.std.proofs.Common.{ℕ, ◌≡◌, ◌<◌, ◌+◌}
use Rattle.std.specs.Prelude.{slice_index}
use Rattle.amd_factor.specs.Partitions.{last_of}
use Rattle.amd_factor.proofs.partition.write_pointers.Given as goal

abbrev pub invariant-supernodes : goal.invariant-supernodes
invariant-supernodes l = record {
  start : slice_index l.ptr 0 ≡ 0;
  ends : (t : ℕ) → t < l.s → slice_index l.ptr (t + 1) ≡ slice_index l.ptr t + slice_index l.sizes (last_of l.first t);
}
