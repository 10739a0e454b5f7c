use Rattle.std.proofs.Common.{ℕ, ◌≢◌, ◌+◌, ◌<◌, get_or}
use Rattle.amd_c_calls.specs.Forests.{MarksRise}
use Rattle.amd_c_calls.proofs.forests.has_no_cycle.Given as goal

abbrev pub invariant-places : goal.invariant-places
invariant-places l = record {
  rise : MarksRise l.above (l.e + 1) l.marks.items;
  done : (j : ℕ) → j < l.e → get_or l.marks.items j 0 ≢ 0;
}
