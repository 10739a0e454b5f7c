use Rattle.amd_engine_law.proofs.EnginesAgree.{answers_one}
use Rattle.amd_engine_law.proofs.laws.law_engines_agree.Goals as goal

pub returns : goal.returns
returns c = answers_one
