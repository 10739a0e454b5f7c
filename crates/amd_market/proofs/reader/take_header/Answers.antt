-- The first line is the header, or it is at fault.
use Rattle.std.proofs.Common.{refl, rules}
use Rattle.amd_market.specs.Faults.{no_header, void}
use Rattle.amd_lines.proofs.LineLemmas.{takes-one}
use Rattle.amd_market.proofs.FaultLemmas.{for-no-line, for-last, for-line, handed-on}
use Rattle.amd_market.proofs.reader.take_header.Goals as goal

pub returns-in_err-take_line-clause-fails : goal.returns-in_err-take_line-clause-fails
returns-in_err-take_line-clause-fails g c =
    let taken = c.in_err-take_line.ensures in
    handed-on _ c.from_residual.result c.from_residual.ensures.1 (for-no-line _ _ _ taken.fails taken.unread taken.long)

pub returns-then-not-branch-clause-fails : goal.returns-then-not-branch-clause-fails
returns-then-not-branch-clause-fails g c =
    for-last _ _ _ _ _ (rw c.if-not-branch.true at c.in_ok-take_line.ensures.takes) c.at_line.ensures refl

pub returns-in-Err-clause-fails : goal.returns-in-Err-clause-fails
returns-in-Err-clause-fails g c =
    for-line (takes-one _ _ _ (rw c.if-not-branch.false at c.in_ok-take_line.ensures.takes)) c.at_line-in-Err.ensures
    (no_header (rw c.line.ensures at c.in-Err.ensures.fault, rw c.line.ensures at c.in-Err.ensures.header) (search rules))

pub returns-then-is_void-clause-fails : goal.returns-then-is_void-clause-fails
returns-then-is_void-clause-fails g c =
    let head = rw c.line.ensures at c.in-Ok.ensures.header in
    for-line (takes-one _ _ _ (rw c.if-not-branch.false at c.in_ok-take_line.ensures.takes)) c.at_line-then-is_void.ensures
    (void (c.in-Ok.header, (head, search rules)))

pub returns-in-Err-Banner-clause-takes : goal.returns-in-Err-Banner-clause-takes
returns-in-Err-Banner-clause-takes g c =
    let bad = rw c.in-Err-Banner.field-0-is at c.in-Err-Banner.ensures.fault in (
      takes-one _ _ _ (rw c.if-not-branch.false at c.in_ok-take_line.ensures.takes),
      ((rw c.line.ensures at bad), (rw c.line.ensures at c.in-Err-Banner.ensures.header)),
    )
