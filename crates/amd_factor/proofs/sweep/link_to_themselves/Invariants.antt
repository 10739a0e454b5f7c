use Rattle.std.proofs.Common.{ℕ, ◌≡◌, ◌<◌}
use Rattle.std.specs.Prelude.{slice_index}
use Rattle.amd_factor.proofs.sweep.link_to_themselves.Given as goal

abbrev pub invariant-links : goal.invariant-links
invariant-links l = (x : ℕ) → x < l.k → slice_index l.link x ≡ x
