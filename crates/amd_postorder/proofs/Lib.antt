pub mod CellWrites
pub mod NumberTests
pub mod Links
pub mod ChildLinks
pub mod ChildChains
pub mod ForestListings
pub mod TreeNumbers
