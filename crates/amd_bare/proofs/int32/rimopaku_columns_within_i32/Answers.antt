use Rattle.std.proofs.Common.{w32}
use Rattle.std.proofs.lemmas.Int.{to_z-of_z}
use Rattle.amd_calls.proofs.WithinLeft.{columns_within}
use Rattle.amd_bare.proofs.int32.rimopaku_columns_within_i32.Goals as goal

pub returns : goal.returns
returns c =
    let a = c.args in
    let call = c.columns_within in
    columns_within _ _ a.n a.a_p.now a.a_i.now a.p.now a.lent.size a.ptr.now a.rows.now a.parent.now call.new.ptr call.new.rows
    call.new.parent call.result _ (to_z-of_z w32 a.n c.ranges.n) call.ensures.left call.ensures.block c.number_of_end.ensures
