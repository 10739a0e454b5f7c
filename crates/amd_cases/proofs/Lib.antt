pub mod NumberLemmas
pub mod ItemLemmas
pub mod ReadingLemmas
pub mod DraftLemmas
pub mod MatrixLemmas
