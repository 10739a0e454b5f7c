-- Counts, sums and places below a bound.
pub mod Below
pub mod Pigeonhole
pub mod Points
pub mod Unions
pub mod Lists
pub mod Places
