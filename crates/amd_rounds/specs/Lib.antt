-- What the rounds of an elimination in one workspace promise. The model that they follow stands in the crate amd_model.
pub mod Views
pub mod Laid
pub mod Keeps
pub mod Compacting
pub mod Parts
pub mod Premises
