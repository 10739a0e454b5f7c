-- The cells stand between the beginning and the end.
use Rattle.std.proofs.Common.{subst}
use Rattle.amd_report.specs.Pictures.{TellsPanel}
use Rattle.amd_report.proofs.Told.{told-among}
use Rattle.amd_report.proofs.drawing.write_panel.Goals as goal

pub returns : goal.returns
returns g c =
    let cells = c.in_ok-write_cells.ensures in
    let tells = subst (λ z. TellsPanel c.args.side z cells.0) c.deref.ensures.value cells.1 in
    (cells.0, tells, told-among _ _ _ _ cells.0 c.in_ok-begin_panel.ensures cells.2 c.in_ok-end_panel.ensures)
