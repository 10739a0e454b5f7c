-- The evaluations of the eliminations that are worked out in full.
pub mod Table
pub mod Cycle
pub mod Seven
pub mod Eleven
pub mod Inputs
