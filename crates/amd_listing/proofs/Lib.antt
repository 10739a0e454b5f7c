-- Lemmas on the listing at the end of an elimination: the order of the blocks, the links of rows, and the places of rows.
pub mod ByPlace
pub mod BlockStarts
pub mod BlockLists
pub mod EndedForest
pub mod EndedBlocks
pub mod EndedListing
pub mod LinkSteps
pub mod RowLinks
pub mod Placed
pub mod BlockPlaces
pub mod Passed
