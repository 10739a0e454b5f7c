use Rattle.std.proofs.Common.{◌≡◌, replicate}
use Rattle.std.specs.Vec.{vec_capacity}
use Rattle.amd_input.proofs.cells.zeros.Given as goal

abbrev pub invariant-cells : goal.invariant-cells
invariant-cells g l = record {
  room : vec_capacity l.own ≡ vec_capacity l.fn.cells;
  items : l.own.items ≡ replicate l.counter 0;
}
