-- A new element, and the room for it.
pub mod Element
pub mod Room
pub mod Visiting
pub mod Compaction
pub mod Beginning
pub mod Pivots
pub mod Premises
pub mod Effects
