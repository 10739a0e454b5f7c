use Rattle.std.proofs.Common.{◌≡◌, replicate}
use Rattle.std.specs.Vec.{vec_capacity}
use Rattle.amd_workspace.proofs.filling.fill_sides.Given as goal

abbrev pub invariant-sides : goal.invariant-sides
invariant-sides g l = record {
  room : vec_capacity l.own ≡ vec_capacity l.fn.list;
  items : l.own.items ≡ replicate l.counter (
    l.number,
    l.number,
  );
}
