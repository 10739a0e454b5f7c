-- Counts: thinned lists, ranks, meetings, and from counted entries to columns.
pub mod ThinRows
pub mod ThinCounts
pub mod Ranking
pub mod Nesting
pub mod Onto
pub mod Linking
pub mod Events
pub mod PlaceArcs
pub mod Rounds
pub mod Telling
pub mod EntryTests
pub mod Sizing
pub mod Assembling
pub mod CountNeeds
