pub mod Counting
pub mod States
pub mod Forests
pub mod Listings
pub mod Figures
pub mod Patterns
pub mod Quotient
pub mod Examples
