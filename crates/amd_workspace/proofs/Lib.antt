-- Lemmas on the lists of neighbours that are laid in one workspace, on the start row by row, and on what its record stands for then and
-- at the end.
pub mod Layings
pub mod SymmetricLists
pub mod SymmetricCounts
pub mod Copied
pub mod CopiedColumns
pub mod LowerLists
pub mod LowerColumns
pub mod LowerWords
pub mod LaidRows
pub mod BandWords
pub mod Starts
pub mod Begun
pub mod AtStart
pub mod EndWords
pub mod Ended
