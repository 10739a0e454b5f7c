-- What the command promises to read, what it is asked for, and the exit statuses.
pub mod Causes
pub mod Held
pub mod Limits
pub mod Listed
pub mod Numbers
pub mod Orders
pub mod Requests
pub mod Valued
pub mod Watched
