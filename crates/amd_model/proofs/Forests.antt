-- Runs on forests.
pub mod Leaf
pub mod Thin
pub mod EdgesWithin
pub mod EntriesMade
pub mod NoFill
