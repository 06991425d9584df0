pub mod Strings
pub mod Refused
pub mod Laws
pub mod Parts
pub mod Writing
pub mod Runs
