use Rattle.std.proofs.Common.{w64}
use Rattle.std.proofs.lemmas.Int.{to_z-of_z}
use Rattle.amd_calls.proofs.Leaving.{classifies_input}
use Rattle.amd_c.proofs.int64.rimopaku_valid_i64.Goals as goal

pub returns : goal.returns
returns c =
    let a = c.args in
    let rows = to_z-of_z w64 a.n_row c.ranges.n_row in
    let columns = to_z-of_z w64 a.n_col c.ranges.n_col in
    classifies_input _ _ a.n_row a.n_col a.a_p.now a.a_i.now c.valid.result _ rows columns c.valid.ensures c.number_of.ensures
