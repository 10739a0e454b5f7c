-- Paths and subtrees of the elimination tree; columns by children; that there is one factor.
pub mod TreePaths
pub mod ByChildren
pub mod FactorOnce
pub mod Once
pub mod TreeLaws
pub mod Clearing
pub mod Descent
pub mod Ancestry
