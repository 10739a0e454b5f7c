-- The proofs of what speaks of an ordering and the factor under it. The answers for a function stand in the folder of its
-- module.
pub mod Reserved
pub mod NeedsBound
pub mod BlocksInside
