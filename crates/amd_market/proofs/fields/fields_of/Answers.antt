-- A format has one group, or more of them, or bytes are skipped before its fields.
use Rattle.amd_market.proofs.CardLemmas.{format-option}
use Rattle.amd_market.proofs.fields.fields_of.Goals as goal

pub returns-in-None : goal.returns-in-None
returns-in-None c = format-option c.args.word.now c.skipped_of.result c.in_default.ensures c.in-None.ensures c.skipped_of.ensures
