pub mod SameLemmas
pub mod ServedPathLemmas
pub mod ResolvingLemmas
