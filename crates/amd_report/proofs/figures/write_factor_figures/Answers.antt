-- The lines are written one after another.
use Rattle.amd_texts.proofs.Written.{Appends-then}
use Rattle.amd_report.proofs.figures.write_factor_figures.Goals as goal

pub returns : goal.returns
returns g c =
    let up_to_2 = Appends-then _ _ _ _ _ c.in_ok-write_labelled.ensures c.in_ok-write_labelled-2.ensures in
    let up_to_3 = Appends-then _ _ _ _ _ up_to_2 c.in_ok-write_labelled-3.ensures in
    let up_to_4 = Appends-then _ _ _ _ _ up_to_3 c.in_ok-write_labelled-4.ensures in
    Appends-then _ _ _ _ _ up_to_4 c.in_ok-write_labelled-5.ensures
