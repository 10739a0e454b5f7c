use Rattle.amd_words.specs.Words.{rows}
use Rattle.amd_elements.proofs.Meeting.{meeting_more}
use Rattle.amd_elements.proofs.fitting.MeetingListVisitor.take.Goals as goal

pub returns-clause-held : goal.returns-clause-held
returns-clause-held g c = λ at.
    meeting_more (rows c.args.iw.now c.args.from c.args.count) at.held c.meet_all-self.ensures
