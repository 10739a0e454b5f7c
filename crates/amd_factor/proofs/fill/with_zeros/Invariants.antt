use Rattle.std.specs.Prelude.{◌≡◌, ◌++◌, replicate}
use Rattle.std.specs.Vec.{vec_capacity}
use Rattle.amd_factor.proofs.fill.with_zeros.Given as goal

abbrev pub invariant-zeros : goal.invariant-zeros
invariant-zeros g l = record {
  zeros : l.rows.items ≡ l.fn.rows.items ++ replicate l.counter l.zero;
  capacity : vec_capacity l.rows ≡ vec_capacity l.fn.rows;
}
