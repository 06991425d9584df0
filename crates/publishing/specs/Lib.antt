pub mod FrontNames
pub mod Following
pub mod ReadResults
pub mod Showing
pub mod Tied
pub mod Publishing
