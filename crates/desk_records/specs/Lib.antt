pub mod RecordLists
pub mod Numbers
pub mod Grouped
pub mod Tallied
pub mod Counted
pub mod Indexed
