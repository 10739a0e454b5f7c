use Rattle.std.proofs.Common.{w64}
use Rattle.std.proofs.lemmas.Int.{to_z-of_z}
use Rattle.amd_c_calls.proofs.PatternsLeft.{row_form_into}
use Rattle.amd_c.proofs.int64.rimopaku_preprocess_i64.Goals as goal

pub returns : goal.returns
returns c =
    let a = c.args in
    let call = c.row_form_into in
    row_form_into _ a.n a.a_p.now a.a_i.now a.pointers.now a.indices.now call.new.pointers call.new.indices call.result _
    (to_z-of_z w64 a.n c.ranges.n) call.ensures c.number_of_end.ensures
