-- The parts are written one after another.
use Rattle.amd_texts.proofs.Written.{Appends-then}
use Rattle.amd_texts.proofs.control_text.write_parameter.Goals as goal

pub returns : goal.returns
returns g c =
    let up_to_2 = Appends-then _ _ _ _ _ c.in_ok-write_all.ensures.bytes c.in_ok-write_thousandths.ensures in
    Appends-then _ _ _ _ _ up_to_2 c.in_ok-write_all-2.ensures.bytes
