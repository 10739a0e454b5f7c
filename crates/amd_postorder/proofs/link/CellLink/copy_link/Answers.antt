use Rattle.std.proofs.Common.{ap, ◌∙◌}
use Rattle.amd_model.specs.Input.Columns.{at}
use Rattle.amd_postorder.specs.CellLinks.{figure_link, figure_links}
use Rattle.amd_postorder.proofs.CellWrites.{written, says_at}
use Rattle.amd_postorder.proofs.link.CellLink.copy_link.Goals as goal

pub returns : goal.returns
returns g c =
    let most = g.U.Unsigned.MOST in
    written most c.args.links.now c.put_cell.new.cells c.args.place c.cell_at.result
    (at (figure_links most c.args.from.now) c.args.other) c.put_cell.ensures
    (ap (figure_link most) c.cell_at.ensures.is ∙ says_at most c.args.from.now c.args.other c.requires.other_within)
