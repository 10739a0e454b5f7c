-- Four texts.
use Rattle.amd_texts.proofs.Told.{told-then}
use Rattle.amd_report.proofs.tree_picture.write_before.Goals as goal

pub returns : goal.returns
returns g c =
    let x0 = c.in_ok-write_head.ensures in
    let x1 = c.in_ok-write_name.ensures in
    let x2 = c.in_ok-write_counts.ensures in
    let x3 = c.in_ok-begin_cells.ensures in
    told-then _ _ _ (told-then _ _ _ (told-then _ _ _ x0 x1) x2) x3
