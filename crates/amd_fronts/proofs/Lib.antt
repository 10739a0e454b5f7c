-- Lemmas on the rows outside a front, and on the lists of its classes once they are renewed.
pub mod Counting
pub mod WordReads
pub mod Leaving
pub mod LentParts
pub mod RenewedFronts
pub mod Retiring
pub mod FrontCounts
pub mod FrontTurns
