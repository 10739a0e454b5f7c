pub mod Handed
pub mod Lodging
