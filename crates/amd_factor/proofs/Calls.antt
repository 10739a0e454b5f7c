-- What the parts of a call owe each other, and the faults of a call.
pub mod ColumnParts
pub mod CountParts
pub mod WithinParts
pub mod Faults
pub mod UnfitFaults
