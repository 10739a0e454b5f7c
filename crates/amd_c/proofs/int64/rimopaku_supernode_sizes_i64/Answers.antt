use Rattle.std.proofs.Common.{w64}
use Rattle.std.proofs.lemmas.Int.{to_z-of_z}
use Rattle.amd_c_calls.proofs.SupernodesLeft.{sizes_into}
use Rattle.amd_c.proofs.int64.rimopaku_supernode_sizes_i64.Goals as goal

pub returns : goal.returns
returns c =
    let a = c.args in
    let call = c.supernode_sizes_into in
    sizes_into _ a.n a.a_p.now a.a_i.now a.p.now a.sizes.now call.new.sizes call.result _ (to_z-of_z w64 a.n c.ranges.n)
    call.ensures c.number_of_end.ensures
