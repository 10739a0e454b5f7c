-- The sum so far.
use Rattle.std.proofs.Common.{◌≡◌, ◌-◌, ◌*◌, ◌≤◌, ◌^◌}
use Rattle.std.specs.Prelude.{slice_index}
use Rattle.amd_model.specs.Below.{sum_below}
use Rattle.amd_report.proofs.profile.sum_of.Given as goal

abbrev pub invariant-rows : goal.invariant-rows
invariant-rows l = record {
  sum : l.sum ≡ sum_below l.row (λ i. i - slice_index l.firsts i);
  small : l.sum ≤ l.row * 2 ^ 64;
}
