use Rattle.std.proofs.Common.{◌<◌, ◌≤◌, ap, subst, sym}
use Rattle.amd_types.specs.Links.{named}
use Rattle.amd_postorder.proofs.CellWrites.{names_place, names_none}
use Rattle.amd_postorder.proofs.link.CellLink.link_at.Goals as goal

pub cell_at-number-requires : goal.cell_at-number-requires
cell_at-number-requires g c = c.requires

pub returns-then-number-MOST-clause-is : goal.returns-then-number-MOST-clause-is
returns-then-number-MOST-clause-is g c = sym (ap named (names_place g.U.Unsigned.MOST c.args.links.now c.args.place c.cell_at-number.result
    c.requires c.cell_at-number.ensures.is (subst (λ m. c.cell_at-number.result < m) c.MOST.ensures c.if-number-MOST.true)))

pub returns-then-number-MOST-clause-small : goal.returns-then-number-MOST-clause-small
returns-then-number-MOST-clause-small g c = subst (λ m. c.cell_at-number.result < m) c.MOST.ensures c.if-number-MOST.true

pub returns-else-number-MOST-clause-is : goal.returns-else-number-MOST-clause-is
returns-else-number-MOST-clause-is g c = sym (ap named (names_none g.U.Unsigned.MOST c.args.links.now c.args.place c.cell_at-number.result
    c.requires c.cell_at-number.ensures.is (subst (λ m. m ≤ c.cell_at-number.result) c.MOST.ensures c.if-number-MOST.false)))

pub returns-else-number-MOST-clause-small : goal.returns-else-number-MOST-clause-small
returns-else-number-MOST-clause-small g c = tt
