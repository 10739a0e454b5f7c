pub mod Sums
pub mod Under
pub mod CountsBack
