-- Columns: new rows, merging, columns that stand one behind the other, and what vectors with columns tell.
pub mod Tails
pub mod NewRows
pub mod Completing
pub mod Merging
pub mod PlaceNumbers
pub mod PlaceSums
pub mod Standing
pub mod Sharing
pub mod Fronts
pub mod Vectors
pub mod ColumnSizes
