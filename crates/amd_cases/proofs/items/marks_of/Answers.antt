-- One mark is added at each turn.
use Rattle.amd_cases.proofs.ItemLemmas.{no-marks}
use Rattle.amd_cases.proofs.items.marks_of.Goals as goal

pub returns-in_default-truth_of : goal.returns-in_default-truth_of
returns-in_default-truth_of g c = λ _ marks h. no-marks _ _ _ _ _ marks c.numbers.invariant c.in-Some.ensures.cases.0
    c.in_default-truth_of.ensures h
