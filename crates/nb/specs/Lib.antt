pub mod Tasks
pub mod Outcomes
