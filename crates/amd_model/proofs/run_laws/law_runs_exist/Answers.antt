use Rattle.amd_model.proofs.States.RunsExist.{runs_exist}
use Rattle.amd_model.proofs.run_laws.law_runs_exist.Goals as goal

pub returns : goal.returns
returns c = runs_exist
