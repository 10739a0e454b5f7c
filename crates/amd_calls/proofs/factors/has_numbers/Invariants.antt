use Rattle.std.proofs.Common.{ℕ, ◌<◌, pos}
use Rattle.std.specs.Prelude.{slice_index}
use Rattle.amd_calls.proofs.factors.has_numbers.Given as goal

abbrev pub invariant-naturals : goal.invariant-naturals
invariant-naturals g l = (i : ℕ) → i < l.k → g.I.Index.fits (pos (slice_index l.naturals i))
