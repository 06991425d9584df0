pub mod LoopLemmas
pub mod OrderLemmas
pub mod PathOrderLemmas
pub mod LabelLemmas
pub mod SetLemmas
pub mod EntryOrderLemmas
