-- Lemmas on words: their signs, the rows that they name, and marks on these rows.
pub mod Signs
pub mod TurnedSigns
pub mod RowLists
pub mod Classes
pub mod WordMarks
pub mod WordCounts
pub mod EachRow
pub mod SideLists
