use Rattle.amd_model.proofs.Examples.Cycle.{lists, first_pivot, second_pivot, fits, homes}
use Rattle.amd_model.proofs.example_laws.example_cycle_lists.Goals as goal

pub returns : goal.returns
returns c = record { lists = lists; first_pivot = first_pivot; second_pivot = second_pivot; fits = fits; homes = homes }
