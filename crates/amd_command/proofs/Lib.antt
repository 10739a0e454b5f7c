pub mod Placing
pub mod Drawing
pub mod Posting
