-- Three texts.
use Rattle.amd_texts.proofs.Told.{told, told-then}
use Rattle.amd_report.proofs.drawing.begin_panel.Goals as goal

pub returns : goal.returns
returns g c =
    let x0 = told _ _ _ c.in_ok-writeln.ensures.bytes in
    let x1 = told _ _ _ c.in_ok-writeln-2.ensures.bytes in
    let x2 = told _ _ _ c.in_ok-write_all.ensures.bytes in
    told-then _ _ _ (told-then _ _ _ x0 x1) x2
