-- The sums over fronts.
pub mod Sums
pub mod FrontSums
pub mod SmallFigures
pub mod NeededColumns
