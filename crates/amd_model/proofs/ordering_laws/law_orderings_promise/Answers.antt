use Rattle.amd_model.proofs.Listings.Orderings.{orderings_promise}
use Rattle.amd_model.proofs.ordering_laws.law_orderings_promise.Goals as goal

pub returns : goal.returns
returns c = orderings_promise
