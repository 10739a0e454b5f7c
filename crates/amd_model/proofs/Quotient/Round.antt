-- A round over lists is a step.
pub mod RoundAt
pub mod Front
pub mod Kept
pub mod Border
pub mod After
pub mod NextLists
pub mod Homes
pub mod Sizes
pub mod Bounds
pub mod IsStep
pub mod Rows
