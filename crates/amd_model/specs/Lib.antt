-- The definitions of an approximate minimum degree ordering, in an order in which they can be read.
-- Words and notation: docs/ARCHITECTURE.md, "The elimination in words". Full titles of the sources: README.md.
pub mod Below
pub mod Graph
pub mod Input
pub mod State
pub mod Step
pub mod Run
pub mod Figures
pub mod Listing
pub mod Reach
pub mod Factor
pub mod Forest
pub mod Laws
pub mod Sound
pub mod Quotient
pub mod QuotientLaws
pub mod Examples
pub mod Ordering
