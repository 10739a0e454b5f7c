use Rattle.amd_elements.proofs.Meeting.{unmarks_then}
use Rattle.amd_elements.proofs.fitting.UnmarkingListVisitor.take.Goals as goal

pub returns-clause-held : goal.returns-clause-held
returns-clause-held g c = λ at. record {
  unmarks = unmarks_then at.held.unmarks c.unmark_all.ensures;
  same = at.held.same;
}
