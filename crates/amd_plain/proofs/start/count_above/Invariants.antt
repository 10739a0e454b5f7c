use Rattle.std.proofs.Common.{◌≡◌}
use Rattle.std.specs.Prelude.{nat_lt}
use Rattle.amd_model.specs.Below.{count_below}
use Rattle.amd_plain.specs.Views.{num}
use Rattle.amd_plain.proofs.start.count_above.Given as goal

abbrev pub invariant-loop-k : goal.invariant-loop-k
invariant-loop-k l = record {
  count : l.count ≡ count_below l.k-index (λ i. nat_lt l.limit (num l.numbers i));
}
