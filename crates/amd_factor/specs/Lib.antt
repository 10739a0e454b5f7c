-- The exact factor of a matrix under an order of its rows: what it is, its laws, what its columns are made from, and how
-- their entries are counted.

-- The answers, the faults, the laws.
pub mod Factors
pub mod Counted
pub mod Needs
pub mod Laws
pub mod Unfit
pub mod Within
-- Orders of the rows, neighbours, columns in vectors, the elimination tree.
pub mod Orders
pub mod Places
pub mod Arcs
pub mod Neighbours
pub mod Columns
pub mod Sizes
pub mod Trees
-- The columns, made by children.
pub mod Gathering
pub mod Merging
pub mod Numbers
pub mod Planning
pub mod Sharing
-- The counts, by the tree and the meetings of arcs.
pub mod Walks
pub mod Ancestors
pub mod Ranks
pub mod Thinning
pub mod Meetings
-- The columns by supernodes.
pub mod Supernodes
pub mod Partitions
pub mod SupernodeLaws
-- the memory of a workspace in a lent block
pub mod Blocks
-- what functions ask of their lists
pub mod Premises
