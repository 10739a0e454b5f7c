-- The parts are written one after another.
use Rattle.amd_texts.proofs.Written.{Appends-then}
use Rattle.amd_report.proofs.json.write_facts_json.Goals as goal

pub returns : goal.returns
returns g c =
    let up_to_2 = Appends-then _ _ _ _ _ c.in_ok-write_pattern_members.ensures c.in_ok-write_source_members.ensures in
    let up_to_3 = Appends-then _ _ _ _ _ up_to_2 c.in_ok-write_shape_members.ensures in
    let up_to_4 = Appends-then _ _ _ _ _ up_to_3 c.in_ok-write_degree_members.ensures in
    let up_to_5 = Appends-then _ _ _ _ _ up_to_4 c.in_ok-write_known_needs.ensures in
    Appends-then _ _ _ _ _ up_to_5 c.in_ok-write_all.ensures.bytes
