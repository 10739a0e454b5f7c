-- What numbers are as words.
pub mod Views
