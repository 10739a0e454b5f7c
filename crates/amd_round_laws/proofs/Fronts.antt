-- The front of a pivot as a list, and what an absorption leaves to its classes.
pub mod Gathered
pub mod Absorbed
