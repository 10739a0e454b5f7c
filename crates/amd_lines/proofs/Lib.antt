pub mod WordLemmas
pub mod WrittenLists
pub mod BlockLemmas
pub mod LineLemmas
pub mod NoteLemmas
pub mod FrontLemmas
pub mod NumberLemmas
pub mod FloatLemmas
