-- The parts are written one after another.
use Rattle.amd_texts.proofs.Written.{Appends-then}
use Rattle.amd_demos.proofs.numbers.write_list.Goals as goal

pub returns : goal.returns
returns g c =
    let up_to_2 = Appends-then _ _ _ _ _ c.in_ok-write.ensures.bytes c.in_ok-write_parted.ensures in
    Appends-then _ _ _ _ _ up_to_2 c.in_ok-write_all.ensures.bytes
