use Rattle.std.proofs.Common.{w64}
use Rattle.std.proofs.lemmas.Int.{to_z-of_z}
use Rattle.amd_c_calls.proofs.SupernodesLeft.{supernodes_into}
use Rattle.amd_c.proofs.int64.rimopaku_supernodes_i64.Goals as goal

pub returns : goal.returns
returns c =
    let a = c.args in
    let call = c.supernodes_and_sizes_into in
    supernodes_into _ a.n a.a_p.now a.a_i.now a.p.now a.first.now a.ptr.now a.rows.now a.parent.now call.new.first call.new.ptr
    call.new.rows call.new.parent call.result _ (to_z-of_z w64 a.n c.ranges.n) call.ensures.left c.number_of_end.ensures
