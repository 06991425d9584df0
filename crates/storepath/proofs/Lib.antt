mod DigitLemmas
pub mod DistinctLemmas
mod KindLemmas
mod NameLemmas
mod NumberLemmas
pub mod PathLemmas
pub mod PathTests
mod SetLemmas
