use Rattle.std.proofs.Common.{negsuc, ap, ◌∙◌}
use Rattle.amd_postorder.specs.CellLinks.{figure_link}
use Rattle.amd_postorder.proofs.CellWrites.{written, link_none}
use Rattle.amd_postorder.proofs.link.CellLink.clear_link.Goals as goal

pub returns : goal.returns
returns g c =
    let most = g.U.Unsigned.MOST in
    written most c.args.links.now c.put_cell.new.cells c.args.place c.MOST.result (negsuc 0) c.put_cell.ensures
    (ap (figure_link most) c.MOST.ensures ∙ link_none most)
