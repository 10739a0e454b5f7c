pub mod InPlaceLaw
pub mod LentPattern
pub mod LentLists
pub mod RaisedLists
pub mod EndingLaw
pub mod Blocks
