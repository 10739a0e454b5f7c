-- A matrix as a caller gives it: column pointers and row indices.
pub mod Columns
pub mod Pattern
pub mod Dense
pub mod Held
