-- What the numbers of an ordering promise. The definitions that they cite stand in the crate amd_model.
pub mod Records
pub mod Statuses
pub mod Permutations
pub mod Naturals
pub mod Links
