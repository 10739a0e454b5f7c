use Rattle.amd_model.proofs.Listings.OneOrdering.{one_ordering}
use Rattle.amd_model.proofs.ordering_laws.law_one_ordering.Goals as goal

pub returns : goal.returns
returns c = one_ordering
