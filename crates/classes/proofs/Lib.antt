pub mod Order
pub mod Names
pub mod Admitting
pub mod EntryLemmas
