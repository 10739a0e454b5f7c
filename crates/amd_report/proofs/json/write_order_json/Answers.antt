-- The parts are written one after another.
use Rattle.amd_texts.proofs.Written.{Appends-then}
use Rattle.amd_report.proofs.json.write_order_json.Goals as goal

pub returns : goal.returns
returns g c =
    let up_to_2 = Appends-then _ _ _ _ _ c.in_ok-write_matrix_members.ensures c.in_ok-write_bounds.ensures in
    let up_to_3 = Appends-then _ _ _ _ _ up_to_2 c.in_ok-write_known_needs.ensures in
    let up_to_4 = Appends-then _ _ _ _ _ up_to_3 c.in_ok-write_all.ensures.bytes in
    let up_to_5 = Appends-then _ _ _ _ _ up_to_4 c.in_ok-write_row_list.ensures in
    Appends-then _ _ _ _ _ up_to_5 c.in_ok-write_all-2.ensures.bytes
