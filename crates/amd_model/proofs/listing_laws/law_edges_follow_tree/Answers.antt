use Rattle.amd_model.proofs.States.EndState.{edges_follow_tree}
use Rattle.amd_model.proofs.listing_laws.law_edges_follow_tree.Goals as goal

pub returns : goal.returns
returns c = edges_follow_tree
