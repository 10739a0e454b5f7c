-- What an ordering promises. The definitions that it cites stand in the crates below.
pub mod Answers
pub mod Within
pub mod Workspaces
pub mod Blocks
