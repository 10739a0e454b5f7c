use Rattle.std.proofs.Common.{pos}
use Rattle.amd_postorder.proofs.CellWrites.{written, link_to}
use Rattle.amd_postorder.proofs.link.CellLink.set_link.Goals as goal

pub returns : goal.returns
returns g c =
    let most = g.U.Unsigned.MOST in
    written most c.args.links.now c.put_cell.new.cells c.args.place c.args.to (pos c.args.to) c.put_cell.ensures
    (link_to most c.args.to c.requires.fits)
