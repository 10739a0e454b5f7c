-- What speaks of an ordering and the factor under it: the faults of a call that makes both, and the laws of both.
pub mod Faults
pub mod Laws
pub mod SupernodeLaws
