use Rattle.std.proofs.Common.{ℕ, ◌≡◌, ◌≢◌, ◌<◌, map}
use Rattle.std.specs.Prelude.{slice_index}
use Rattle.amd_types.specs.Naturals.{naturals}
use Rattle.amd_factor.proofs.gathering.mark_rows.Given as goal

abbrev pub invariant-rows : goal.invariant-rows
invariant-rows g l = record {
  marked : (i : ℕ) → i < l.k → slice_index l.mark (slice_index (naturals (map g.N.Index.value l.rows)) i) ≡ l.stamp;
  others : (j : ℕ) → ((i : ℕ) → i < l.k → slice_index (naturals (map g.N.Index.value l.rows)) i ≢ j) →
      slice_index l.mark j ≡ slice_index l.initial.mark j;
}
