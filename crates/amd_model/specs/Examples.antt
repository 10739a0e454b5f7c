-- Eliminations worked out in full.
pub mod Table
pub mod Cycle
pub mod Seven
pub mod Eleven
