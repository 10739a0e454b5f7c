-- What the lines of a matrix file spell.
pub mod Headers
pub mod Entries
pub mod Arrays
pub mod Boeing
pub mod Faults
pub mod Columns
pub mod Keys
pub mod Pairs
pub mod Stops
pub mod Files
