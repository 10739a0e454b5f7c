-- What is told of the transpose is told of the matrix, whatever the status is.
use Rattle.amd_report.proofs.Turned.{facts_turned}
use Rattle.amd_report.proofs.facts.facts_of_jumbled.Goals as goal

pub returns-clause-facts : goal.returns-clause-facts
returns-clause-facts g c =
    let clean = rw (c.deref.ensures.value, c.deref-2.ensures.value) at c.in_ok-c_p.ensures.clean in
    let told = rw (c.deref-3.ensures.value, c.deref-4.ensures.value) at c.in_ok-facts.ensures.facts in
    facts_turned _ _ _ _ _ clean.transpose _ _ _ told
