-- What is read of an input. The definitions of patterns stand in the crate amd_model.
pub mod Scans
pub mod PatternFigures
pub mod Transposes
pub mod Degrees
pub mod Mirrors
pub mod LowerRows
