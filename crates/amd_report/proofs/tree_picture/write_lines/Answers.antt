-- Three texts.
use Rattle.amd_texts.proofs.Told.{told, told-then}
use Rattle.amd_report.proofs.tree_picture.write_lines.Goals as goal

pub returns : goal.returns
returns g c =
    let x0 = told _ _ _ c.in_ok-write_all.ensures.bytes in
    let x1 = c.in_ok-write_few.ensures in
    let x2 = told _ _ _ c.in_ok-write_all-2.ensures.bytes in
    told-then _ _ _ (told-then _ _ _ x0 x1) x2
