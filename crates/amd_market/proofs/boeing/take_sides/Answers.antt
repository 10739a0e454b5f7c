-- The line was read, if there is one.
use Rattle.amd_market.proofs.FaultLemmas.{for-no-line, handed-on}
use Rattle.amd_market.proofs.BoeingLemmas.{sides-line, sides-end}
use Rattle.amd_market.proofs.boeing.take_sides.Goals as goal

pub returns-in_err-take_line-clause-fails : goal.returns-in_err-take_line-clause-fails
returns-in_err-take_line-clause-fails g c =
    let taken = c.in_err-take_line.ensures in
    handed-on _ c.from_residual.result c.from_residual.ensures.1 (for-no-line _ _ _ taken.fails taken.unread taken.long)

pub returns-then-not-branch-clause-takes : goal.returns-then-not-branch-clause-takes
returns-then-not-branch-clause-takes g c = sides-end _ _ _ (rw c.if-not-branch.true at c.in_ok-take_line.ensures.takes)

pub returns-clause-takes : goal.returns-clause-takes
returns-clause-takes g c =
    sides-line _ _ _ c.sides_of.result (rw c.if-not-branch.false at c.in_ok-take_line.ensures.takes)
    (rw c.line.ensures at c.sides_of.ensures)
