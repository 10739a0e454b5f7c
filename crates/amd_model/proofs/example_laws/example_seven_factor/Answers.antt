use Rattle.std.proofs.Common.{refl}
use Rattle.amd_model.specs.Figures.{entries}
use Rattle.amd_model.specs.Factor.{needed_front}
use Rattle.amd_model.proofs.Examples.Seven.{factor}
use Rattle.amd_model.proofs.example_laws.example_seven_factor.Goals as goal

pub returns : goal.returns
unfolding entries needed_front
returns c = record { factor = factor; entries_needed = refl; front_needed = refl }
