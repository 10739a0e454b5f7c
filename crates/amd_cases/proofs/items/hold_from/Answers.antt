-- Numbers of no marks are those of no item.
use Rattle.amd_cases.proofs.ItemLemmas.{no-hold}
use Rattle.amd_cases.proofs.items.hold_from.Goals as goal

pub returns-in-Err : goal.returns-in-Err
returns-in-Err g c = λ refused. no-hold _ (c.in-Err.ensures refused)
