-- States and steps of the elimination.
pub mod Words
pub mod Sound
pub mod SoundStart
pub mod SoundStep
pub mod Steps
pub mod StepTest
pub mod Next
pub mod NewParts
pub mod StepFronts
pub mod Classes
pub mod Bounds
pub mod Exact
pub mod RunsExist
pub mod EndState
pub mod EmptyRows
pub mod Paths
