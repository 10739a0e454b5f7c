-- The parts are written one after another.
use Rattle.amd_texts.proofs.Written.{Appends-then}
use Rattle.amd_report.proofs.description.write_facts.Goals as goal

pub returns : goal.returns
returns g c =
    let up_to_2 = Appends-then _ _ _ _ _ c.in_ok-write_source.ensures c.in_ok-write_pattern.ensures in
    let up_to_3 = Appends-then _ _ _ _ _ up_to_2 c.in_ok-write_shape.ensures in
    Appends-then _ _ _ _ _ up_to_3 c.in_ok-write_degrees.ensures
