-- What a matrix has once it is ready for an elimination.
pub mod Ready
