pub mod Teams
pub mod Sessions
pub mod Asked
