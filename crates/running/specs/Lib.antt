pub mod Calling
pub mod Meeting
pub mod ServedSessions
pub mod Runs
