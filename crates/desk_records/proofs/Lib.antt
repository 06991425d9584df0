pub mod NumberLemmas
pub mod CountedLemmas
pub mod FoundLemmas
