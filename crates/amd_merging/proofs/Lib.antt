-- Lemmas on classes that are alike, and on the front put back into the lists by bound.
pub mod BucketKeys
pub mod BucketWalk
pub mod FewMerged
pub mod FrontBack
pub mod Likeness
pub mod MergeBack
pub mod MovedRows
pub mod SameWords
pub mod MergeState
pub mod MergeWalk
pub mod MergeEnds
pub mod MergeLink
pub mod Closings
