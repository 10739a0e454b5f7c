-- What the lines of a text are, and the words of a line.
pub mod Words
pub mod Blocks
pub mod Lines
