use Rattle.amd.proofs.OneAnswer.{one_answer}
use Rattle.amd.proofs.laws.law_one_answer.Goals as goal

pub returns : goal.returns
returns c = one_answer
