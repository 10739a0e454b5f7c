use Rattle.std.proofs.Common.{ℕ, ◌≡◌, ◌<◌, length}
use Rattle.std.specs.Prelude.{slice_index, slice_index_or, None, unwrap_or}
use Rattle.amd_factor.proofs.ranks.go_up.Given as goal

abbrev pub invariant-places : goal.invariant-places
invariant-places l = (m : ℕ) → m < l.k → slice_index l.up m ≡ unwrap_or (slice_index_or l.parent m None) (length l.up)
