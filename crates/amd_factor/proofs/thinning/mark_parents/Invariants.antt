use Rattle.std.proofs.Common.{ℕ, ◌≡◌, ◌<◌, ◌⊎◌}
use Rattle.std.specs.Prelude.{slice_index, slice_index_or, None, Some}
use Rattle.amd_factor.proofs.thinning.mark_parents.Given as goal

abbrev pub invariant-places : goal.invariant-places
invariant-places l = record {
  marks : (q : ℕ) → (slice_index l.mark q ≡ slice_index l.initial.mark q) ⊎ ((slice_index l.mark q ≡ l.stamp) ×
      (x : ℕ) × (x < l.k) × (slice_index_or l.parent (slice_index l.list x) None ≡ Some q));
}
