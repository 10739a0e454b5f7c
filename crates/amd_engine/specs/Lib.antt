-- What the run of the engine in place promises.
pub mod InPlace
