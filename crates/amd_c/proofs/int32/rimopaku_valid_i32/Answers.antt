use Rattle.std.proofs.Common.{w32}
use Rattle.std.proofs.lemmas.Int.{to_z-of_z}
use Rattle.amd_calls.proofs.Leaving.{classifies_input}
use Rattle.amd_c.proofs.int32.rimopaku_valid_i32.Goals as goal

pub returns : goal.returns
returns c =
    let a = c.args in
    let rows = to_z-of_z w32 a.n_row c.ranges.n_row in
    let columns = to_z-of_z w32 a.n_col c.ranges.n_col in
    classifies_input _ _ a.n_row a.n_col a.a_p.now a.a_i.now c.valid.result _ rows columns c.valid.ensures c.number_of.ensures
