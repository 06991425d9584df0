pub mod ReplyLemmas
pub mod CacheCrossing
pub mod CoreCrossing
pub mod TurnLemmas
