-- A fault names the line that was read.
use Rattle.amd_cases.proofs.ReadingLemmas.{names-last}
use Rattle.amd_cases.proofs.reader.CaseReader.take_item.Goals as goal

pub returns-in-Err-clause-line : goal.returns-in-Err-clause-line
returns-in-Err-clause-line g c =
    let read = rw c.if-not-branch.false at c.in_ok-take_telling.ensures.takes in
    names-last _ _ _ read.lines _ _ read.takes c.at_line.ensures
