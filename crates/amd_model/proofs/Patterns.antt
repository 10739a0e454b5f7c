-- The graph of a pattern, and its starting lists.
pub mod Pointers
pub mod DegreeSums
pub mod StartingLists
