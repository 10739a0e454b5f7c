-- the goals of lines::take_telling.
use Rattle.amd_lines.specs.Lines.{FailsAt, MeetsTelling, percent}
use Rattle.amd_market.proofs.UnreadLemmas.{no-value, unread-fails, unread-read, unread-meets}
use Rattle.amd_market.proofs.lines.take_telling.Goals as goal

pub returns-in_err-take_telling-clause-takes : goal.returns-in_err-take_telling-clause-takes
returns-in_err-take_telling-clause-takes g c = no-value _ _ c.from_residual.result c.from_residual.ensures.1

pub returns-in_err-take_telling-clause-fails : goal.returns-in_err-take_telling-clause-fails
returns-in_err-take_telling-clause-fails g c = unread-fails c.from_residual.result _ _ c.from_residual.ensures.1
    (FailsAt g.R.Read.remaining c.args.lines.now) c.in_err-take_telling.ensures.fails

pub returns-in_err-take_telling-clause-unread : goal.returns-in_err-take_telling-clause-unread
returns-in_err-take_telling-clause-unread g c = unread-read c.from_residual.result _ _ c.from_residual.ensures.1

pub returns-in_err-take_telling-clause-long : goal.returns-in_err-take_telling-clause-long
returns-in_err-take_telling-clause-long g c = unread-meets c.from_residual.result _ _ c.from_residual.ensures.1
    (MeetsTelling percent g.R.Read.remaining c.args.lines.now) c.in_err-take_telling.ensures.long
