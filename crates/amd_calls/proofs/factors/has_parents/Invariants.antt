use Rattle.std.proofs.Common.{ℕ, ◌<◌}
use Rattle.std.specs.Prelude.{None, slice_index_or}
use Rattle.amd_calls.specs.Columns.{parent_number}
use Rattle.amd_calls.proofs.factors.has_parents.Given as goal

abbrev pub invariant-parents : goal.invariant-parents
invariant-parents g l = (i : ℕ) → i < l.k → g.I.Index.fits (parent_number (slice_index_or l.parents i None))
