-- Lists in one workspace, and lists by bound.
pub mod Chains
pub mod Renewal
pub mod Layout
pub mod Lengths
pub mod Spans
pub mod Workspaces
pub mod Sizes
