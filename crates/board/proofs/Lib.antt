pub mod OrderLemmas
pub mod ChainLemmas
pub mod SearchLemmas
pub mod StageLemmas
pub mod TopicLemmas
pub mod KeptLemmas
