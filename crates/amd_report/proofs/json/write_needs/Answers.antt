-- The parts are written one after another.
use Rattle.amd_texts.proofs.Written.{Appends-then}
use Rattle.amd_report.proofs.json.write_needs.Goals as goal

pub returns : goal.returns
returns g c =
    let up_to_2 = Appends-then _ _ _ _ _ c.in_ok-write_need.ensures c.in_ok-write_need-2.ensures in
    Appends-then _ _ _ _ _ up_to_2 c.in_ok-write_other_need.ensures
