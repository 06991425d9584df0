pub mod Inputs
pub mod Entries
pub mod Admitting
