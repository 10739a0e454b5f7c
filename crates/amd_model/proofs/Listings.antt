-- The tree of a run, its listings, and the columns under them.
pub mod Tree
pub mod Words
pub mod ListedOnce
pub mod ListingsExist
pub mod Columns
pub mod ColumnsInside
pub mod Orderings
pub mod OneOrdering
pub mod ReachTest
