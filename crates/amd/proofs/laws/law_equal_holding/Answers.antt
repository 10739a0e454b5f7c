use Rattle.amd.proofs.OneAnswer.{answers_equal}
use Rattle.amd.proofs.laws.law_equal_holding.Goals as goal

pub returns : goal.returns
returns c = answers_equal
