-- Lists of numbers: what they name, what a test keeps of them, their sums, and what is taken off a number for each of them.
pub mod Added
pub mod Cuts
pub mod Named
pub mod Pivots
pub mod Rising
pub mod Same
pub mod Taken
