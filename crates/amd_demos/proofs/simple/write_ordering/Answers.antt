-- The parts are written one after another.
use Rattle.amd_texts.proofs.Written.{Appends-then}
use Rattle.amd_demos.proofs.simple.write_ordering.Goals as goal

pub returns : goal.returns
returns g c =
    let up_to_2 = Appends-then _ _ _ _ _ c.in_ok-write_list.ensures c.in_ok-write_list-2.ensures in
    Appends-then _ _ _ _ _ up_to_2 c.in_ok-info.ensures
