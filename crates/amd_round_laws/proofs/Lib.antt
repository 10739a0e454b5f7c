pub mod Lists
pub mod Fronts
pub mod Merging
pub mod Rounding
pub mod Starting
pub mod Round
