-- Columns by supernodes: runs of places, what counts tell of them, climbs of rows, sizes and figures.
pub mod Runs
pub mod Cutting
pub mod Prefixes
pub mod SupernodeTree
pub mod RowClimbs
pub mod TypedRows
pub mod SupernodeRows
pub mod NoSupernodes
pub mod SupernodeRoom
pub mod CutSizes
pub mod PartitionEnds
pub mod Appending
pub mod SupernodeFigures
