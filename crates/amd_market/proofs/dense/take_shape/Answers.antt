-- An error names the line that was read, or the last one.
use Rattle.std.proofs.Common.{refl}
use Rattle.amd_market.proofs.FaultLemmas.{for-unread, handed-on, for-missing, for-words}
use Rattle.amd_market.proofs.dense.take_shape.Goals as goal

pub returns-in_err-take_telling-clause-fails : goal.returns-in_err-take_telling-clause-fails
returns-in_err-take_telling-clause-fails g c =
    let taken = c.in_err-take_telling.ensures in
    handed-on _ c.from_residual.result c.from_residual.ensures.1 (for-unread _ _ _ taken.fails taken.unread taken.long)

pub returns-then-not-branch-clause-fails : goal.returns-then-not-branch-clause-fails
returns-then-not-branch-clause-fails g c =
    for-missing (rw c.if-not-branch.true at c.in_ok-take_telling.ensures.takes) c.at_end.ensures refl

pub returns-in-Err-clause-fails : goal.returns-in-Err-clause-fails
returns-in-Err-clause-fails g c = for-words (rw c.if-not-branch.false at c.in_ok-take_telling.ensures.takes) c.at_line.ensures
    (rw c.line.ensures at c.in-Err.ensures.fault)
