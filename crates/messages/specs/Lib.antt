pub mod Comments
pub mod Ends
pub mod Explaining
