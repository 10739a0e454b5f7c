-- Texts: pieces, members, items and lines, and what a writer took.
pub mod Pieces
pub mod Mirrors
pub mod Pushed
pub mod Passing
pub mod Signing
pub mod Widths
pub mod Classes
pub mod Connecting
pub mod Firsts
pub mod Members
pub mod Entries
pub mod Items
pub mod FactorLines
pub mod Told
pub mod Turned
-- Pictures: cells of entries and of fill, runs of cells; the layout of a tree, and its cells.
pub mod Cells
pub mod Sifting
pub mod Filling
pub mod Runs
pub mod Laying
pub mod Painting
