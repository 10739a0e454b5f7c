use Rattle.std.proofs.Common.{◌≡◌, ◌<◌, ◌^◌, get_or}
use Rattle.amd_model.specs.Below.{sum_below}
use Rattle.amd_input.proofs.cells.total.Given as goal

abbrev pub invariant-cells : goal.invariant-cells
invariant-cells g l = record {
  fits : l.sum < 2 ^ 64;
  sum : l.sum ≡ sum_below l.cell-index (λ i. get_or l.cells i 0);
}
