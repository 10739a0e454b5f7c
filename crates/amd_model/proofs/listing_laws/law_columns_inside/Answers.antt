use Rattle.amd_model.proofs.Listings.ColumnsInside.{columns_inside}
use Rattle.amd_model.proofs.listing_laws.law_columns_inside.Goals as goal

pub returns : goal.returns
returns c = columns_inside
