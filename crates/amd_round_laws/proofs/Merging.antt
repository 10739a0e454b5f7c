-- The classes of a front that are left, and those that represent others.
pub mod Representatives
pub mod Made
