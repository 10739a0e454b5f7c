-- The next line was read, or the text ends.
use Rattle.std.proofs.Common.{refl}
use Rattle.amd_lines.proofs.LineLemmas.{takes-one}
use Rattle.amd_market.proofs.FaultLemmas.{for-no-line, for-last, handed-on}
use Rattle.amd_market.proofs.boeing.take_some.Goals as goal

pub returns-in_err-take_line-clause-fails : goal.returns-in_err-take_line-clause-fails
returns-in_err-take_line-clause-fails g c =
    let taken = c.in_err-take_line.ensures in
    handed-on _ c.from_residual.result c.from_residual.ensures.1 (for-no-line _ _ _ taken.fails taken.unread taken.long)

pub returns-then-branch-clause-takes : goal.returns-then-branch-clause-takes
returns-then-branch-clause-takes g c = takes-one _ _ _ (rw c.if-branch.true at c.in_ok-take_line.ensures.takes)

pub returns-else-branch-clause-fails : goal.returns-else-branch-clause-fails
returns-else-branch-clause-fails g c =
    for-last _ _ _ _ _ (rw c.if-branch.false at c.in_ok-take_line.ensures.takes) c.at_line.ensures refl
