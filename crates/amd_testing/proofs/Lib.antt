pub mod Tallies
mod Wrapped
