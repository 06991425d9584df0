pub mod Serving
pub mod Ahead
pub mod Heads
pub mod InputHeads
pub mod Taking
pub mod Answered
pub mod Counting
