use Rattle.std.proofs.Common.{w64}
use Rattle.std.proofs.lemmas.Int.{to_z-of_z}
use Rattle.amd_c_calls.proofs.ForestsLeft.{postorder_into}
use Rattle.amd_c.proofs.int64.rimopaku_postorder_i64.Goals as goal

pub returns : goal.returns
returns c =
    let a = c.args in
    let call = c.postorder_into-status in
    postorder_into _ a.n a.parent.now a.nv.now a.f_size.now a.order.now call.new.order call.result _
    (to_z-of_z w64 a.n c.ranges.n) call.ensures c.number_of.ensures
