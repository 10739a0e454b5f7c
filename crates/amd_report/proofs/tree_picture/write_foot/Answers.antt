-- Three texts.
use Rattle.amd_texts.proofs.Told.{told, told-then}
use Rattle.amd_report.proofs.tree_picture.write_foot.Goals as goal

pub returns : goal.returns
returns g c =
    let x0 = c.in_ok-write_notes.ensures in
    let x1 = c.in_ok-write_merged.ensures in
    let x2 = told _ _ _ c.in_ok-write_all.ensures.bytes in
    told-then _ _ _ (told-then _ _ _ x0 x1) x2
