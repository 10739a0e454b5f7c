use Rattle.std.proofs.Common.{w32}
use Rattle.std.proofs.lemmas.Int.{to_z-of_z}
use Rattle.amd_c_calls.proofs.PatternsLeft.{degrees_into}
use Rattle.amd_c.proofs.int32.rimopaku_aat_i32.Goals as goal

pub returns : goal.returns
returns c =
    let a = c.args in
    let call = c.degrees_into in
    degrees_into _ a.n a.a_p.now a.a_i.now a.degrees.now call.new.degrees a.statistics.now call.new.statistics call.result _
    (to_z-of_z w32 a.n c.ranges.n) call.ensures c.number_of_end.ensures
