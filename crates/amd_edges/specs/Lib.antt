-- What the walk over the edges of a matrix promises.
pub mod Visits
pub mod Walk
