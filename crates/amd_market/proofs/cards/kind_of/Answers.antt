-- The first word is at fault, or what stands behind it.
use Rattle.amd_market.proofs.CardLemmas.{card-type, no-sizes}
use Rattle.amd_market.proofs.FaultLemmas.{handed-on}
use Rattle.amd_market.proofs.cards.kind_of.Goals as goal

pub returns-in_err-letters-clause-fault : goal.returns-in_err-letters-clause-fault
returns-in_err-letters-clause-fault c = handed-on _ c.from_residual.result c.from_residual.ensures.1
    (card-type _ c.args.line.now _ _ c.in-Some.ensures.words c.in_err-letters.ensures.fault)

pub returns-in_default-spelled_sizes-clause-fault : goal.returns-in_default-spelled_sizes-clause-fault
returns-in_default-spelled_sizes-clause-fault c =
    no-sizes c.args.line.now _ _ c.in-Some.ensures.words c.in_default-spelled_sizes.ensures
