-- The texts, as functions of what they tell of, and what a writer took.
pub mod Texts
pub mod Writers
