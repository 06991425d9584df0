pub mod QueueLemmas
pub mod WorkLemmas
pub mod AlongLemmas
pub mod RoundLemmas
pub mod TakenLemmas
mod TextLemmas
mod CommandLemmas
mod LaunchingLemmas
mod InputLemmas
mod PieceLemmas
