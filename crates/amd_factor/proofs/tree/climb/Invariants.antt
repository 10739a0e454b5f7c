use Rattle.std.proofs.Common.{ℕ, ◌≢◌, ◌<◌, ◌-◌, ◌⊎◌}
use Rattle.std.specs.Prelude.{None, slice_index_or}
use Rattle.amd_factor.specs.Trees.{Over}
use Rattle.amd_factor.specs.Ancestors.{Climbing, IsDone}
use Rattle.amd_factor.proofs.tree.climb.Given as goal

abbrev pub invariant-up : goal.invariant-up
invariant-up g l = record {
  climbing : Climbing g.o l.i l.k l.parent l.ancestor;
  waits : (r : ℕ) → r < l.i → Over g.o.graph g.o.rows l.j r → (slice_index_or l.parent r None ≢ None) ⊎ Over g.o.graph g.o.rows l.k r;
  kept : (m : ℕ) → IsDone g.o l.i l.initial.parent m → IsDone g.o l.i l.parent m;
}

abbrev pub decreases-up : goal.decreases-up
decreases-up g l = l.i - l.k
