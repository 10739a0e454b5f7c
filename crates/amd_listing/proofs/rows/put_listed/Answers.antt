use Rattle.std.proofs.Common.{◌∙◌, ap, map, pos}
use Rattle.std.proofs.lemmas.List.{map-set}
use Rattle.amd_listing.proofs.rows.put_listed.Goals as goal

pub returns-clause-listed : goal.returns-clause-listed
returns-clause-listed g c = ap (map pos) c.put_cell.ensures ∙ map-set pos c.args.p.now c.args.k c.args.v

pub returns-clause-inverse : goal.returns-clause-inverse
returns-clause-inverse g c = ap (map pos) c.put_cell-2.ensures ∙ map-set pos c.args.p_inv.now c.args.v c.args.k
