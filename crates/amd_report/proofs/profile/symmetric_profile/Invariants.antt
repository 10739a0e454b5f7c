-- The sum so far.
use Rattle.std.proofs.Common.{◌≡◌, ◌-◌, ◌*◌, ◌≤◌, ◌^◌}
use Rattle.amd_model.specs.Below.{sum_below}
use Rattle.amd_report.specs.Passes.{first_row}
use Rattle.amd_report.proofs.profile.symmetric_profile.Given as goal

abbrev pub invariant-columns : goal.invariant-columns
invariant-columns l = record {
  sum : l.sum ≡ sum_below l.column (λ i. i - first_row l.a_p l.a_i i);
  small : l.sum ≤ l.column * 2 ^ 64;
}
