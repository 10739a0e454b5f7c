-- Lemmas on lists by bound, on lists that stand apart in one workspace, and on the words that a list keeps.
pub mod ChainLists
pub mod Frames
pub mod Spans
pub mod Filtering
pub mod PlainSums
pub mod Renewing
pub mod BucketCounts
pub mod Keys
