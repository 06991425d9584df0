pub mod Codes
pub mod Visible
pub mod Gathering
