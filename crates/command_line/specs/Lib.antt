pub mod Intstore
pub mod Named
pub mod Steps
