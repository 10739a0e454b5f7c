pub mod HeldLemmas
pub mod LineFaults
pub mod ListedLines
pub mod ToldNumbers
pub mod PlacedLines
