-- The record of the plain engine, what its rounds promise, and the record before the first round.
pub mod Views
pub mod ListsByBound
pub mod Rounds
pub mod Keeps
pub mod Starts
pub mod Groups
pub mod Parts
pub mod Plain
