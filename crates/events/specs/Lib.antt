pub mod Terms
pub mod Codes
pub mod Statuses
pub mod Outputs
pub mod Ever
pub mod Undoing
