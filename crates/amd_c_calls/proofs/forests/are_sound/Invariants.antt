use Rattle.std.proofs.Common.{ℕ, ◌<◌}
use Rattle.amd_c_calls.specs.Forests.{IsSoundForest}
use Rattle.amd_c_calls.proofs.forests.are_sound.Given as goal

abbrev pub invariant-places : goal.invariant-places
invariant-places l = (j : ℕ) → j < l.e → IsSoundForest l.parent l.nv l.f_size j
