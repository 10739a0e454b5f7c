-- The lines are written one after another.
use Rattle.amd_texts.proofs.Written.{Appends-then}
use Rattle.amd_texts.proofs.control_text.control.Goals as goal

pub returns : goal.returns
returns g c =
    let up_to_2 = Appends-then _ _ _ _ _ c.in_ok-write_all.ensures.bytes c.in_ok-write_parameter.ensures in
    let up_to_3 = Appends-then _ _ _ _ _ up_to_2 c.in_ok-write_dense_rows.ensures in
    let up_to_4 = Appends-then _ _ _ _ _ up_to_3 c.in_ok-write_absorption.ensures in
    Appends-then _ _ _ _ _ up_to_4 c.in_ok-write_all-2.ensures.bytes
