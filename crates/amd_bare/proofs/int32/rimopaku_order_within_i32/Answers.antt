use Rattle.std.proofs.Common.{w32}
use Rattle.std.specs.Prelude.{None}
use Rattle.std.proofs.lemmas.Int.{to_z-of_z}
use Rattle.amd_calls.proofs.Blocks.{orders_within}
use Rattle.amd_bare.proofs.int32.rimopaku_order_within_i32.Goals as goal

pub returns : goal.returns
returns c =
    let a = c.args in
    let order = c.order_within_narrow in
    orders_within None _ a.n a.parameters.now a.a_p.now a.a_i.now a.lent.size a.p.now a.p_inv.now order.new.p order.new.p_inv
    a.statistics.now
    order.new.statistics _ (to_z-of_z w32 a.n c.ranges.n) order.ensures
