use Rattle.std.proofs.Common.{ℕ, ◌<◌, length}
use Rattle.std.specs.Prelude.{slice_index}
use Rattle.amd_factor.specs.Meetings.{CountsTargets, Taken}
use Rattle.amd_factor.proofs.sweep.tell_counts.Given as goal

abbrev pub invariant-columns : goal.invariant-columns
invariant-columns g l = (k : ℕ) → k < l.k → CountsTargets g.s (Taken g.s (length g.s.up)) k (slice_index l.counts k)
