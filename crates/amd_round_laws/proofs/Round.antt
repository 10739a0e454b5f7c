-- A round computes the next lists of the rules, and its record stands for them.
pub mod Turn
pub mod Fronts
pub mod Sizes
pub mod NextLists
pub mod Homes
pub mod Links
pub mod Parents
pub mod Bounds
pub mod NextRound
pub mod Finding
pub mod Ended
