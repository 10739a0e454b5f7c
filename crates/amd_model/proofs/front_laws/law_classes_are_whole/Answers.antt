use Rattle.amd_model.proofs.States.Classes.{classes_in_each_state}
use Rattle.amd_model.proofs.front_laws.law_classes_are_whole.Goals as goal

pub returns : goal.returns
returns c = classes_in_each_state
