pub mod Slots
pub mod Grouped
pub mod PathSets
