pub mod ReachedLemmas
pub mod ChoosingLemmas
pub mod SourceLemmas
pub mod KeyLemmas
pub mod GatherLemmas
pub mod PlanLemmas
pub mod LabelLemmas
pub mod DeskLemmas
pub mod LabelledLemmas
mod RealisedLemmas
