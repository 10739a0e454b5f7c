use Rattle.amd_model.proofs.Listings.ListingsExist.{listings_exist}
use Rattle.amd_model.proofs.listing_laws.law_listings_exist.Goals as goal

pub returns : goal.returns
returns c = listings_exist
