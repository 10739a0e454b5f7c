-- What the record of an elimination says, as functions, whichever engine keeps it.
pub mod Views
pub mod Rounds
pub mod Keeps
pub mod Starts
