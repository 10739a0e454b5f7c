use Rattle.std.proofs.Common.{ℕ, ◌≡◌, ◌<◌, length}
use Rattle.amd_c_calls.specs.Forests.{above_at, parent_in}
use Rattle.amd_c_calls.proofs.forests.parents_of.Given as goal

abbrev pub invariant-places : goal.invariant-places
invariant-places l = record {
  room : length l.above.items ≡ l.e;
  each : (j : ℕ) → j < l.e → above_at l.above.items j ≡ parent_in l.parent l.nv j;
}
