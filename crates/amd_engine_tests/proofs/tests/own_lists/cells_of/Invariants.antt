use Rattle.std.proofs.Common.{◌≡◌, ◌≤◌, length, take}
use Rattle.std.specs.Vec.{vec_capacity}
use Rattle.amd_engine_tests.proofs.tests.own_lists.cells_of.Given as goal

abbrev pub invariant-cells : goal.invariant-cells
invariant-cells g l = record {
  room : length l.cells ≤ vec_capacity l.numbers;
  items : l.numbers.items ≡ take l.cell-index l.cells;
}
