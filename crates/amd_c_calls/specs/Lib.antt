-- What the calls for the degrees and for the row form leave in a caller's arrays.
pub mod Patterns
-- What the calls for the postorder of a forest leave there.
pub mod Forests
-- What the call for lists in the caller's workspace leaves there.
pub mod Laid
-- What the calls for the supernodes of a factor leave there.
pub mod Supernodal
