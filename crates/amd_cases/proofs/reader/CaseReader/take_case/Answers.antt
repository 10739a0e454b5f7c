-- The line of the number was read, and then the lines of the body; an error names the last line.
use Rattle.std.proofs.Common.{rules}
use Rattle.std.proofs.lemmas.Result.{err_from_is_err_and}
use Rattle.amd_cases.proofs.ReadingLemmas.{case-behind, names-last, names-behind}
use Rattle.amd_cases.proofs.reader.CaseReader.take_case.Goals as goal

pub returns-in-Some-Case-clause-takes : goal.returns-in-Some-Case-clause-takes
returns-in-Some-Case-clause-takes g c =
    case-behind _ _ _ _ _ c.in-Some-Case.number _ _ (rw c.in-Some-Case.is at c.in_ok-take_item.ensures.takes) c.in-Some-Case.field-0-is
    c.in_ok-take_body-in-Some-Case.ensures.takes (search rules)

pub returns-in_err-take_body-in-Some-Case-clause-line : goal.returns-in_err-take_body-in-Some-Case-clause-line
returns-in_err-take_body-in-Some-Case-clause-line g c =
    let t = rw c.in-Some-Case.is at c.in_ok-take_item.ensures.takes in
    let r = c.from_residual-in_err-take_body-in-Some-Case in
    let p = err_from_is_err_and r.result r.ensures.1 in
    rw (p.1, p.2) (names-behind _ _ _ _ t.lines _ t.takes c.in_err-take_body-in-Some-Case.ensures.line)

pub returns : goal.returns
returns g c =
    let t = rw c.in-Some.is at c.in_ok-take_item.ensures.takes in
    record { takes = tt; line = names-last _ _ _ t.lines _ _ t.takes c.at_line.ensures }
