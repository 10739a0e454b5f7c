-- What is written for a status and a record.
pub mod Numbers
-- What the calls leave in a caller's arrays.
pub mod Calls
-- What the calls for the columns of a factor leave there.
pub mod Columns
-- What the calls for the counts of those columns leave there.
pub mod Counting
-- What the calls for a factor take of a block that is lent, and what they leave.
pub mod Within
