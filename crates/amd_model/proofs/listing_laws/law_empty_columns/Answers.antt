use Rattle.amd_model.proofs.Listings.ColumnsInside.{empty_columns}
use Rattle.amd_model.proofs.listing_laws.law_empty_columns.Goals as goal

pub returns : goal.returns
returns c = empty_columns
