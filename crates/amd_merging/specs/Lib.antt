-- Classes merged, and the front at its end.
pub mod Classes
pub mod Reading
pub mod Merging
pub mod Restoring
pub mod FrontLists
pub mod Closing
pub mod Premises
pub mod Effects
