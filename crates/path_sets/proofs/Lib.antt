pub mod SlotLemmas
pub mod PathSetLemmas
