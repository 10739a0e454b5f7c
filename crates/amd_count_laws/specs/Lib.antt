pub mod Parts
pub mod Rising
pub mod Within
