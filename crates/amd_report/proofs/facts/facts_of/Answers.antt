use Rattle.amd_report.proofs.facts.facts_of.Goals as goal

pub facts_of_jumbled-requires-clause-jumbled : goal.facts_of_jumbled-requires-clause-jumbled
facts_of_jumbled-requires-clause-jumbled g c =
    (rw (c.in-OkButJumbled.is, c.deref.ensures.value, c.deref-2.ensures.value) at c.valid.ensures).1
