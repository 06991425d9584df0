pub mod FollowLemmas
pub mod Ties
pub mod LegalLemmas
pub mod PublisherLemmas
