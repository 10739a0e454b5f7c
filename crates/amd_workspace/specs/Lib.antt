-- What the filling and the laying of a workspace promise, the start of an elimination in it, and its end.
pub mod Lists
pub mod Copying
pub mod Lower
pub mod Bands
pub mod Laying
pub mod Starting
pub mod Classes
pub mod Ending
