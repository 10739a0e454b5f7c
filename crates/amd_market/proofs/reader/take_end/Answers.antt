-- An error names the line that was read.
use Rattle.std.proofs.Common.{refl}
use Rattle.amd_market.proofs.FaultLemmas.{for-unread, for-words, handed-on}
use Rattle.amd_market.proofs.reader.take_end.Goals as goal

pub returns-in_err-take_telling-clause-fails : goal.returns-in_err-take_telling-clause-fails
returns-in_err-take_telling-clause-fails g c =
    let taken = c.in_err-take_telling.ensures in
    handed-on _ c.from_residual.result c.from_residual.ensures.1 (for-unread _ _ _ taken.fails taken.unread taken.long)

pub returns-then-branch-clause-fails : goal.returns-then-branch-clause-fails
returns-then-branch-clause-fails g c =
    for-words (rw c.if-branch.true at c.in_ok-take_telling.ensures.takes) c.at_line.ensures refl
