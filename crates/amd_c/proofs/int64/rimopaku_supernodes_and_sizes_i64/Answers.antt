use Rattle.std.proofs.Common.{w64}
use Rattle.std.proofs.lemmas.Int.{to_z-of_z}
use Rattle.amd_c_calls.proofs.SupernodesLeft.{supernodes_and_sizes}
use Rattle.amd_c.proofs.int64.rimopaku_supernodes_and_sizes_i64.Goals as goal

pub returns : goal.returns
returns c =
    let a = c.args in
    let call = c.supernodes_and_sizes_into in
    supernodes_and_sizes _ a.n a.a_p.now a.a_i.now a.p.now a.first.now a.ptr.now a.rows.now a.parent.now call.new.first call.new.ptr
    call.new.rows call.new.parent a.sizes.now call.new.sizes call.result _ (to_z-of_z w64 a.n c.ranges.n) call.ensures.left
    call.ensures.told c.number_of_end.ensures
