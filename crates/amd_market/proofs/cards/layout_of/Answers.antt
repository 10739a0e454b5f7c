-- The formats are those of the text without the spaces in parentheses.
use Rattle.amd_market.proofs.cards.layout_of.Goals as goal

pub returns : goal.returns
returns g c = rw (c.deref.ensures.value, c.in_ok-text.ensures) at c.formats_of.ensures
