-- What the degrees and the row form leave, and the same in the numbers of C.
pub mod PatternsLeft
-- The walk of the test of a forest, and the marks and ranks that it leaves.
pub mod WalksUp
-- What the postorder leaves, and the same in the numbers of C.
pub mod ForestsLeft
-- What the supernodes of a factor leave, and the same in the numbers of C.
pub mod SupernodesLeft
pub mod Parted
-- Lists that are laid, and copies of them.
pub mod SameLists
-- What the elimination of lists leaves.
pub mod Eliminated
