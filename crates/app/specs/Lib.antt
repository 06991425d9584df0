pub mod Actions
pub mod Runs
