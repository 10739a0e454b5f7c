-- The first word is no format, or the second one is none.
use Rattle.amd_market.proofs.CardLemmas.{no-pointer-format, no-row-format}
use Rattle.amd_market.proofs.cards.formats_of.Goals as goal

pub returns-in_err-fields_of : goal.returns-in_err-fields_of
returns-in_err-fields_of c = rw c.from_residual-in_err-fields_of.ensures
    (no-pointer-format _ _ _ c.in_ok-first.ensures.words c.in_err-fields_of.ensures)

pub returns-in_err-fields_of-2 : goal.returns-in_err-fields_of-2
returns-in_err-fields_of-2 c = rw c.from_residual-in_err-fields_of-2.ensures
    (no-row-format _ _ _ _ _ c.in_ok-first.ensures.words c.in_ok-second.ensures.words c.in_err-fields_of-2.ensures)
