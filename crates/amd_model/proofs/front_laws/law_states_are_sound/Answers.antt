use Rattle.amd_model.proofs.States.Paths.{sound_in_each_state}
use Rattle.amd_model.proofs.front_laws.law_states_are_sound.Goals as goal

pub returns : goal.returns
returns c = sound_in_each_state
