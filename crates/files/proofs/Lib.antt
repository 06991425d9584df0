pub mod FileLemmas
mod OutputLemmas
