use Rattle.amd_model.proofs.Forests.NoFill.{no_fill}
use Rattle.amd_model.proofs.forest_laws.law_forest.Goals as goal

pub returns : goal.returns
returns c = no_fill
