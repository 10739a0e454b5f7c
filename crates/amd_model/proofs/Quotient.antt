-- The quotient graph kept in lists, and that a round over it is a step.
pub mod Lists
pub mod Sums
pub mod Start
pub mod Round
pub mod Rounds
pub mod Outside
