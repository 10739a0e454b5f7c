-- The sum so far.
use Rattle.std.proofs.Common.{◌≡◌, ◌<◌, ◌^◌}
use Rattle.std.specs.Prelude.{slice_index}
use Rattle.amd_model.specs.Below.{sum_below}
use Rattle.amd_report.proofs.signs.sum_of.Given as goal

abbrev pub invariant-numbers : goal.invariant-numbers
invariant-numbers l = record {
  fits : l.sum < 2 ^ 64;
  sum : l.sum ≡ sum_below l.number-index (λ i. slice_index l.numbers i);
}
