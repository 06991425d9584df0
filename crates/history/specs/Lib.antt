pub mod NewFronts
pub mod Callers
pub mod Tokens
pub mod HistoryPrefixes
pub mod Histories
