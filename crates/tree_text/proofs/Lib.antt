pub mod ReadItems
pub mod LowerDigits
pub mod TextCompleteness
pub mod WrittenEntries
pub mod TextLengths
pub mod TextSoundness
pub mod DigitLemmas
