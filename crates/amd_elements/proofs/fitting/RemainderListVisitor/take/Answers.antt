use Rattle.amd_words.specs.Words.{rows}
use Rattle.amd_words.proofs.RowLists.{rows_length}
use Rattle.amd_elements.proofs.Meeting.{remainder_more}
use Rattle.amd_elements.proofs.fitting.RemainderListVisitor.take.Goals as goal

pub returns-clause-held : goal.returns-clause-held
returns-clause-held g c = λ at.
    remainder_more (rows c.args.iw.now c.args.from c.args.count) at.held (rows_length c.args.iw.now c.args.from c.args.count)
    c.saturating_sub-self.ensures
