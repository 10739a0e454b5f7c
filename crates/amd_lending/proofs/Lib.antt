-- How numbers in memory become words, and back.
pub mod Rows
pub mod Places
pub mod Lending
pub mod Raised
pub mod SignedTurns
pub mod Lent
pub mod Cleared
