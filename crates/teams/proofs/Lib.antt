pub mod WaitLemmas
mod AskedLemmas
pub mod WorkerLemmas
mod ServedLemmas
