pub mod PlaceLemmas
pub mod IndexLemmas
pub mod NumberLemmas
pub mod IndexedLemmas
pub mod PlannerLemmas
pub mod JoinLemmas
pub mod UserLemmas
pub mod ForgettingLemmas
pub mod FirstLemmas
pub mod FinishedLemmas
mod LedLemmas
