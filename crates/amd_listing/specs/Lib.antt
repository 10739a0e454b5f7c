-- What links and numbers of rows say at the end of an elimination, and the listing that is made of them.
pub mod Ended
pub mod Blocks
pub mod Placing
