use Rattle.amd_model.proofs.Patterns.StartingLists.{starting_lists}
use Rattle.amd_model.proofs.quotient_laws.law_starting_lists.Goals as goal

pub returns : goal.returns
returns c = starting_lists
