-- the goals of lines::take_line.
use Rattle.std.proofs.Common.{[]}
use Rattle.amd_lines.specs.Lines.{FailsAt, MeetsLong}
use Rattle.amd_market.proofs.UnreadLemmas.{no-value, unread-fails, unread-read, unread-meets}
use Rattle.amd_market.proofs.lines.take_line.Goals as goal

pub returns-in_err-take_line-clause-takes : goal.returns-in_err-take_line-clause-takes
returns-in_err-take_line-clause-takes g c = no-value _ _ c.from_residual.result c.from_residual.ensures.1

pub returns-in_err-take_line-clause-fails : goal.returns-in_err-take_line-clause-fails
returns-in_err-take_line-clause-fails g c = unread-fails c.from_residual.result _ _ c.from_residual.ensures.1
    (FailsAt g.R.Read.remaining c.args.lines.now) c.in_err-take_line.ensures.fails

pub returns-in_err-take_line-clause-unread : goal.returns-in_err-take_line-clause-unread
returns-in_err-take_line-clause-unread g c = unread-read c.from_residual.result _ _ c.from_residual.ensures.1

pub returns-in_err-take_line-clause-long : goal.returns-in_err-take_line-clause-long
returns-in_err-take_line-clause-long g c = unread-meets c.from_residual.result _ _ c.from_residual.ensures.1
    (MeetsLong g.R.Read.remaining c.args.lines.now []) c.in_err-take_line.ensures.long
