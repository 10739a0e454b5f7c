-- What the lines of a case spell.
pub mod Items
pub mod Drafts
pub mod Spelling
pub mod Reading
pub mod Matrices
