use Rattle.std.proofs.Common.{◌≡◌, take}
use Rattle.std.specs.Vec.{vec_capacity}
use Rattle.amd_engine.proofs.fresh.write_degrees.Given as goal

abbrev pub invariant-rows : goal.invariant-rows
invariant-rows g l = record {
  items : l.len.items ≡ take l.degree-index l.degrees;
  capacity : vec_capacity l.len ≡ vec_capacity l.fn.len;
}
