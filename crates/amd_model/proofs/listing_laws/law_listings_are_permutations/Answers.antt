use Rattle.amd_model.proofs.Listings.ListedOnce.{listings_are_permutations}
use Rattle.amd_model.proofs.listing_laws.law_listings_are_permutations.Goals as goal

pub returns : goal.returns
returns c = listings_are_permutations
