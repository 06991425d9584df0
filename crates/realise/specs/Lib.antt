pub mod Additions
pub mod Held
pub mod Holdings
pub mod Kept
pub mod Pinned
