-- An item has the keyword of the line's first word, and its numbers are those of the other words.
use Rattle.amd_cases.proofs.ItemLemmas.{one-item, this-item, this-hold}
use Rattle.amd_cases.proofs.items.item_of.Goals as goal

pub returns : goal.returns
returns g c = this-item _ _ _ _ _ _ c.in-Some.ensures.words c.in-Some-keyword_of.ensures c.in_ok-numbers.ensures
    c.in-Some-item_from.ensures.0 c.in-Some-item_from.ensures.1 c.in-Some-item_from.ensures.2

pub returns-in_default-item_from : goal.returns-in_default-item_from
returns-in_default-item_from g c = λ _. one-item _ _ _ _ _ c.in-Some.ensures.words c.in-Some-keyword_of.ensures c.in_ok-numbers.ensures
    c.in_default-item_from.ensures

pub returns-in-Hold : goal.returns-in-Hold
returns-in-Hold g c = this-hold _ _ _ _ _ _ _ c.in-Some.ensures.words c.in-Some-keyword_of.ensures c.in-Hold.is c.in_ok-numbers.ensures
    c.deref.ensures.value c.hold_from.ensures
