-- Bytes that are written one after another, and lists of numbers.
pub mod Written
-- An ordering that was answered, under the names of the caller.
pub mod Orderings
-- What the parts of a demo write, one after another.
pub mod Parts
-- The sizes of columns, written one after another.
pub mod Sizes
