-- The parts are written one after another.
use Rattle.amd_texts.proofs.Written.{Appends-then}
use Rattle.amd_report.proofs.compare.write_comparison_lines.Goals as goal

pub returns : goal.returns
returns g c =
    let up_to_2 = Appends-then _ _ _ _ _ c.in_ok-write_compared.ensures c.in_ok-write_compared-2.ensures in
    let up_to_3 = Appends-then _ _ _ _ _ up_to_2 c.in_ok-write_compared-3.ensures in
    let up_to_4 = Appends-then _ _ _ _ _ up_to_3 c.in_ok-write_compared-4.ensures in
    let up_to_5 = Appends-then _ _ _ _ _ up_to_4 c.in_ok-write_compared-5.ensures in
    let up_to_6 = Appends-then _ _ _ _ _ up_to_5 c.in_ok-write_compared-6.ensures in
    Appends-then _ _ _ _ _ up_to_6 c.in_ok-write_compared-7.ensures
