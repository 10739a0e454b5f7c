-- What an ordering leaves, and the same in the numbers of C.
pub mod Leaving
-- What the columns of a factor leave, and the same in the numbers of C.
pub mod ColumnsLeft
-- What the counts of those columns leave, and the same in the numbers of C.
pub mod CountsLeft
-- What an ordering in a lent block leaves.
pub mod Blocks
-- The numbers of a factor are numbers of the type.
pub mod Fits
-- What the calls for a factor leave in a block, and the same in the numbers of C.
pub mod WithinLeft
