-- What words say, and the two sides of a row in its list.
pub mod Words
pub mod Sides
