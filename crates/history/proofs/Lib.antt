pub mod Prefixes
pub mod TokenLemmas
pub mod RowLemmas
pub mod PrefixLemmas
pub mod AddingLemmas
pub mod HistoryLemmas
