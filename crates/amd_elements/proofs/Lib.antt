-- Lemmas on the making of an element: its rows gathered, the room for them, and the lists that stay as they were.
pub mod Made
pub mod ListsAround
pub mod Gathering
pub mod Building
pub mod Settling
pub mod RoundWords
pub mod OwnPlace
pub mod Meeting
pub mod MarkedLists
pub mod MoveSigns
pub mod Moves
pub mod Touching
pub mod MakingRoom
pub mod Beginnings
