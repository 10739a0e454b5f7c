use Rattle.std.proofs.Common.{w32}
use Rattle.std.proofs.lemmas.Int.{to_z-of_z}
use Rattle.amd_c_calls.proofs.ForestsLeft.{postorder_into}
use Rattle.amd_c.proofs.int32.rimopaku_postorder_i32.Goals as goal

pub returns : goal.returns
returns c =
    let a = c.args in
    let call = c.postorder_into-status in
    postorder_into _ a.n a.parent.now a.nv.now a.f_size.now a.order.now call.new.order call.result _
    (to_z-of_z w32 a.n c.ranges.n) call.ensures c.number_of.ensures
