-- The rows outside a front, and its classes renewed.
pub mod Counts
pub mod Tallies
pub mod Fronts
pub mod Turning
pub mod TurningLists
pub mod Premises
pub mod Effects
