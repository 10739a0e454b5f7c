-- What the demos promise to write.
pub mod Lines
pub mod Exact
pub mod Demos
