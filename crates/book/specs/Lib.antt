pub mod Keeping
pub mod Asking
pub mod Applying
pub mod Closing
pub mod KeptClosures
