-- A group is what its parentheses hold.
use Rattle.amd_market.proofs.CardLemmas.{group-option}
use Rattle.amd_market.proofs.fields.group_of.Goals as goal

pub returns : goal.returns
returns c = group-option c.args.word.now _ c.item_of.result c.in_ok-bracketed.ensures c.item_of.ensures
