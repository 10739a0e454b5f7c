-- What the command promises to work out.
pub mod Answers
pub mod Compared
pub mod DrawnFills
pub mod Lists
pub mod Needs
pub mod Panels
pub mod Parts
pub mod Permuted
pub mod Postorders
pub mod Written
