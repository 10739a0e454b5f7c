pub mod Written
pub mod Padding
pub mod Told
